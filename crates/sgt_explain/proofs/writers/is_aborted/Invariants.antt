use Rattle.std.proofs.Common.{◌≡◌, ◌≤◌}
use Rattle.sgt_model.specs.Fates.{fate_of}
use Rattle.sgt_explain.specs.Places.{entries_before}
use Rattle.sgt_explain.proofs.writers.is_aborted.Given as goal

abbrev pub invariant-loop-place : goal.invariant-loop-place
invariant-loop-place l = record {
  within : l.place ≤ l.end;
  from : l.floor ≤ l.place;
  none_since : fate_of (entries_before l.history l.end) l.t ≡ fate_of (entries_before l.history l.place) l.t;
}

abbrev pub decreases-loop-place : goal.decreases-loop-place
decreases-loop-place l = l.place
