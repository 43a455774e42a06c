use Rattle.sgt_appends.proofs.Raised.{few_enough}
use Rattle.sgt_appends.proofs.laws.few_edges_are_enough.Goals as goal

pub returns : goal.returns
returns c = few_enough
