use Rattle.sgt_levels.proofs.WriteOrders.{committed_writes}
use Rattle.sgt_levels.proofs.laws.committed_is_uncommitted.Goals as goal

pub returns : goal.returns
returns c = committed_writes
