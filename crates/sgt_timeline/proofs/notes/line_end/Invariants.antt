use Rattle.std.proofs.Common.{◌≤◌, length}
use Rattle.sgt_timeline.proofs.notes.line_end.Given as goal

abbrev pub invariant-loop-place : goal.invariant-loop-place
invariant-loop-place l = record {
  from : l.start ≤ l.space;
  to : l.space ≤ length l.words;
}
