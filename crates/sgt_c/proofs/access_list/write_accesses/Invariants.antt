use Rattle.std.proofs.Common.{◌≡◌, ◌≤◌, length, drop}
use Rattle.sgt_c.specs.AccessStructs.{HoldAccesses, accesses_of}
use Rattle.sgt_c.specs.ReplayedCalls.{past_at}
use Rattle.sgt_c.proofs.access_list.write_accesses.Given as goal

abbrev pub invariant-loop-place : goal.invariant-loop-place
invariant-loop-place l = record {
  counted : l.count ≡ length (accesses_of (past_at l.history.entries l.place) l.t);
  holds : HoldAccesses l.to (accesses_of (past_at l.history.entries l.place) l.t);
  few : l.count ≤ l.place;
  capacity : length l.to ≡ length l.initial.to;
  rest : drop l.count l.to ≡ drop l.count l.initial.to;
}
