use Rattle.std.proofs.Common.{subst}
use Rattle.sgt_classes.specs.Classes.{BreaksRigorousness, IsFirstViolation}
use Rattle.sgt_check.proofs.report.strict_unless_rigorous.Goals as goal

pub returns-in-None : goal.returns-in-None
returns-in-None c = c.rigorous_are_strict.ensures c.args.history.now
    (subst (λ v. IsFirstViolation (BreaksRigorousness c.args.history.now) v) c.in-None.is c.requires)
