use Rattle.std.proofs.Common.{◌↔◌, drop}
use Rattle.std.specs.List.{AllZip}
use Rattle.sgt_audit.specs.Outcomes.{OutcomeStands}
use Rattle.sgt_audit.proofs.stands.all_stand.Given as goal

abbrev pub invariant-loop-i : goal.invariant-loop-i
invariant-loop-i g l = AllZip (OutcomeStands l.history.entries l.tries) (drop l.i l.jobs) (drop l.i l.outcomes) ↔ AllZip
    (OutcomeStands l.history.entries l.tries) l.jobs l.outcomes
