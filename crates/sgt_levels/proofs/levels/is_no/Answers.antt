use Rattle.std.proofs.Common.{subst}
use Rattle.sgt_levels.specs.Answers.{IsCommittedRight}
use Rattle.sgt_levels.proofs.levels.is_no.Goals as goal

pub returns-in-Fault : goal.returns-in-Fault
returns-in-Fault c = λ h yes right. (subst (λ x. IsCommittedRight h x) c.in-Fault.is right).1

pub returns-in-Partial : goal.returns-in-Partial
returns-in-Partial c = λ h yes right. subst (λ x. IsCommittedRight h x) c.in-Partial.is right

pub returns-in-Cycle : goal.returns-in-Cycle
returns-in-Cycle c = λ h yes right. subst (λ x. IsCommittedRight h x) c.in-Cycle.is right
