use Rattle.sgt_progress.proofs.Drains.{alone_ends}
use Rattle.sgt_progress.proofs.laws.alone_ends.Goals as goal

pub returns : goal.returns
returns c = alone_ends
