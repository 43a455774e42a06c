use Rattle.std.proofs.Common.{◌≡◌, ◌≤◌, ◌+◌, length}
use Rattle.sgt_model.specs.Progress.{call_of, caller_accesses}
use Rattle.sgt_c.specs.ReplayedCalls.{past_at}
use Rattle.sgt_c.proofs.replayed_calls.started.Given as goal

abbrev pub invariant-loop-at : goal.invariant-loop-at
invariant-loop-at l = record {
  within : l.at ≤ length l.history.entries;
  since : call_of (past_at l.history.entries l.place) l.t ≡ call_of (past_at l.history.entries l.at) l.t;
  counted : length (caller_accesses (past_at l.history.entries l.place) l.t)
      ≡ l.accesses + length (caller_accesses (past_at l.history.entries l.at) l.t);
  few : l.accesses + l.at ≤ l.place;
}

abbrev pub decreases-loop-at : goal.decreases-loop-at
decreases-loop-at l = l.at
