use Rattle.std.proofs.Common.{subst}
use Rattle.sgt_levels.specs.Answers.{IsCommittedRight}
use Rattle.sgt_levels.proofs.levels.is_run.Goals as goal

pub returns-in-Run : goal.returns-in-Run
returns-in-Run c = λ h yes right. (_, subst (λ x. IsCommittedRight h x) c.in-Run.is right)
