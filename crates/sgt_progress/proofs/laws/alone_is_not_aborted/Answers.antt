use Rattle.sgt_progress.proofs.Alone.{alone_is_not_aborted}
use Rattle.sgt_progress.proofs.laws.alone_is_not_aborted.Goals as goal

pub returns : goal.returns
returns c = alone_is_not_aborted
