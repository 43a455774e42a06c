use Rattle.std.proofs.lemmas.Option.{slice_get_within}
use Rattle.sgt_classes.proofs.avoiding.avoidance_violation.Goals as goal

pub first_violation-requires-clause-state : goal.first_violation-requires-clause-state
first_violation-requires-clause-state c = c.new-seen.ensures _

pub first_violation-requires-clause-within : goal.first_violation-requires-clause-within
first_violation-requires-clause-within c = λ i j broken. slice_get_within _ j _ broken.reads.read
