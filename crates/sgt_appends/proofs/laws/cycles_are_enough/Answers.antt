use Rattle.sgt_appends.proofs.Orders.{cycle_enough}
use Rattle.sgt_appends.proofs.laws.cycles_are_enough.Goals as goal

pub returns : goal.returns
returns c = cycle_enough
