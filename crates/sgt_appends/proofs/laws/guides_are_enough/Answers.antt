use Rattle.sgt_appends.proofs.Guided.{guide_enough}
use Rattle.sgt_appends.proofs.laws.guides_are_enough.Goals as goal

pub returns : goal.returns
returns c = guide_enough
