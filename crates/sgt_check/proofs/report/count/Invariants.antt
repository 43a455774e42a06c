use Rattle.std.specs.Prelude.{◌≡◌, ◌≤◌, ℕ, [], take, is_some, count_by}
use Rattle.sgt_classes.specs.Tables.{entry_of}
use Rattle.sgt_check.specs.Reports.{acts, count_firsts, commits, aborts}
use Rattle.sgt_check.proofs.report.count.Given as goal

abbrev pub invariant-loop-place : goal.invariant-loop-place
invariant-loop-place l = record {
  seen : (t : ℕ) → is_some (entry_of l.seen t) ≡ acts (take l.place l.history) t;
  transactions : l.counts.transactions ≡ count_firsts [] (take l.place l.history);
  committed : l.counts.committed ≡ count_by (λ op. commits op.action) (take l.place l.history);
  aborted : l.counts.aborted ≡ count_by (λ op. aborts op.action) (take l.place l.history);
  few : (l.counts.transactions ≤ l.place) × (l.counts.committed ≤ l.place) × (l.counts.aborted ≤ l.place);
}
