use Rattle.sgt_levels.proofs.Order.{snapshot_committed}
use Rattle.sgt_levels.proofs.laws.snapshot_is_committed.Goals as goal

pub returns : goal.returns
returns c = snapshot_committed
