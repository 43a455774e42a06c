use Rattle.sgt_levels.proofs.WriteOrders.{write_cycle}
use Rattle.sgt_levels.proofs.laws.write_cycles_are_enough.Goals as goal

pub returns : goal.returns
returns c = write_cycle
