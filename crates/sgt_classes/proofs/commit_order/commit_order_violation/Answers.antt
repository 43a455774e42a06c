use Rattle.sgt_classes.proofs.Places.{uses_within}
use Rattle.sgt_classes.proofs.commit_order.commit_order_violation.Goals as goal

pub first_violation-requires-clause-within : goal.first_violation-requires-clause-within
first_violation-requires-clause-within c = λ i j broken. uses_within _ j broken.after _ broken.conflict.2
