use Rattle.sgt_levels.proofs.Chosen.{decided_enough}
use Rattle.sgt_levels.proofs.laws.decided_splits_are_enough.Goals as goal

pub returns : goal.returns
returns c = decided_enough
