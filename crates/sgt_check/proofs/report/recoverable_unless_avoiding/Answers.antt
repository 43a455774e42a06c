use Rattle.std.proofs.Common.{subst}
use Rattle.sgt_classes.specs.Classes.{BreaksAvoidance, IsFirstViolation}
use Rattle.sgt_check.proofs.report.recoverable_unless_avoiding.Goals as goal

pub returns-in-None : goal.returns-in-None
returns-in-None c = c.avoiding_are_recoverable.ensures c.args.history.now
    (subst (λ v. IsFirstViolation (BreaksAvoidance c.args.history.now) v) c.in-None.is c.requires)
