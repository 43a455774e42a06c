use Rattle.sgt_classes.proofs.Places.{uses_within}
use Rattle.sgt_classes.proofs.strict.strict_violation.Goals as goal

pub first_violation-requires-clause-state : goal.first_violation-requires-clause-state
first_violation-requires-clause-state c = (c.new-seen.ensures.last _, c.new-seen.ensures.ends _)

pub first_violation-requires-clause-within : goal.first_violation-requires-clause-within
first_violation-requires-clause-within c = λ i j broken. uses_within _ j broken.user broken.item broken.used
