use Rattle.std.proofs.Common.{◌≡◌, ◌≤◌, not}
use Rattle.sgt_model.specs.Fates.{aborted}
use Rattle.sgt_model.specs.Values.{newest_store}
use Rattle.sgt_explain.specs.Places.{entries_before}
use Rattle.sgt_explain.proofs.writers.newest_writer.Given as goal

abbrev pub invariant-loop-place : goal.invariant-loop-place
invariant-loop-place l = record {
  within : l.place ≤ l.end;
  from : l.floor ≤ l.place;
  none_since : newest_store (λ v. not (aborted (entries_before l.history l.end) v)) l.key (entries_before l.history l.end)
      ≡ newest_store (λ v. not (aborted (entries_before l.history l.end) v)) l.key (entries_before l.history l.place);
}

abbrev pub decreases-loop-place : goal.decreases-loop-place
decreases-loop-place l = l.place
