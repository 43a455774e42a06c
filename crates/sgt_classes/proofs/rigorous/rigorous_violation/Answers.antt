use Rattle.sgt_classes.proofs.Rigorousness.{rigorous_within}
use Rattle.sgt_classes.proofs.rigorous.rigorous_violation.Goals as goal

pub first_violation-requires-clause-state : goal.first_violation-requires-clause-state
first_violation-requires-clause-state c = c.new-seen.ensures _

pub first_violation-requires-clause-within : goal.first_violation-requires-clause-within
first_violation-requires-clause-within c = rigorous_within _
