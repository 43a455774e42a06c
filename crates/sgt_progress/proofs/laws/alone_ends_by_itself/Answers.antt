use Rattle.sgt_progress.proofs.Alone.{alone_ends_by_itself}
use Rattle.sgt_progress.proofs.laws.alone_ends_by_itself.Goals as goal

pub returns : goal.returns
returns c = alone_ends_by_itself
