use Rattle.sgt_classes.specs.Seen.{NoneBreaksBefore}
use Rattle.sgt_classes.proofs.checker.first_violation.Given as goal

abbrev pub invariant-loop-place : goal.invariant-loop-place
invariant-loop-place g l = record {
  state : g.C.Checker.knows l.history l.place l.seen;
  before : NoneBreaksBefore (g.C.Checker.breaks l.history) l.place;
}
