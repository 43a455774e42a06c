use Rattle.std.proofs.Common.{subst}
use Rattle.sgt_classes.specs.Classes.{BreaksStrictness, IsFirstViolation}
use Rattle.sgt_check.proofs.report.avoiding_unless_strict.Goals as goal

pub returns-in-None : goal.returns-in-None
returns-in-None c = c.strict_avoid_cascading_aborts.ensures c.args.history.now
    (subst (λ v. IsFirstViolation (BreaksStrictness c.args.history.now) v) c.in-None.is c.requires)
