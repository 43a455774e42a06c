use Rattle.sgt_classes.proofs.EdgeDecisions.{commit_ordered_serializable}
use Rattle.sgt_classes.proofs.laws.commit_ordered_are_serializable.Goals as goal

pub returns : goal.returns
returns c = commit_ordered_serializable
