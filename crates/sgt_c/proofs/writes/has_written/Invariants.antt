use Rattle.std.proofs.Common.{◌≡◌, ◌≤◌, length, reverse}
use Rattle.sgt_model.specs.Accesses.{acts}
use Rattle.sgt_c.specs.ReplayedCalls.{past_at}
use Rattle.sgt_c.specs.Writes.{any_store}
use Rattle.sgt_c.proofs.writes.has_written.Given as goal

abbrev pub invariant-loop-at : goal.invariant-loop-at
invariant-loop-at l = record {
  within : l.at ≤ length l.history.entries;
  same : any_store (acts (reverse l.history.entries) l.t) ≡ any_store (acts (past_at l.history.entries l.at) l.t);
}

abbrev pub decreases-loop-at : goal.decreases-loop-at
decreases-loop-at l = l.at
