use Rattle.sgt_appends.proofs.ByRank.{raised_enough}
use Rattle.sgt_appends.proofs.laws.raised_are_enough.Goals as goal

pub returns : goal.returns
returns c = raised_enough
