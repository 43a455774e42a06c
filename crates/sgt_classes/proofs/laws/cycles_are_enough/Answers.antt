use Rattle.sgt_classes.proofs.EdgeDecisions.{cycle_enough}
use Rattle.sgt_classes.proofs.laws.cycles_are_enough.Goals as goal

pub returns : goal.returns
returns c = cycle_enough
