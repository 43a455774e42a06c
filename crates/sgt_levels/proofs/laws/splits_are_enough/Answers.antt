use Rattle.sgt_levels.proofs.Chosen.{split_enough}
use Rattle.sgt_levels.proofs.laws.splits_are_enough.Goals as goal

pub returns : goal.returns
returns c = split_enough
