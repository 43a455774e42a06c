use Rattle.sgt_classes.proofs.EdgeDecisions.{serializability_theorem}
use Rattle.sgt_classes.proofs.laws.serializability_theorem.Goals as goal

pub returns : goal.returns
returns c = serializability_theorem
