-- Snapshot isolation: each transaction sees the lists as they were when it began, with its own appends. Two transactions
-- that append to one key do not overlap.
use Rattle.std.specs.Prelude.{◌≢◌, ◌<◌, ◌⊎◌, ℕ, List, [], ◌∷◌, nat_lt, if◌then◌else◌}
use Rattle.sgt_appends.specs.declared.transaction.Status.TheVariants.{Committed}
use Rattle.sgt_appends.specs.declared.transaction.Transaction.{Transaction}
use Rattle.sgt_appends.specs.Lists.{Has, Rises}
use Rattle.sgt_appends.specs.Runs.{SeesAll, operations_of, Ended, MayRun}
use Rattle.sgt_appends.specs.Precedences.{Appends}
use Rattle.sgt_appends.specs.Guides.{appended_by}

-- those of the transactions that committed before the time
abbrev pub before_time : (ℕ → ℕ) → ℕ → List ℕ → List ℕ
before_time commit time [] = []
before_time commit time (t ∷ ts) = if nat_lt (commit t) time then t ∷ before_time commit time ts else before_time commit time ts

-- A snapshot run has the transactions in the order of their commits: each committed one, no aborted one, and any of the
-- unknown ones. Each begins before it commits. It sees the lists that those have left that committed before it began,
-- with its own appends. Of two that append to one key, one commits before the other begins.
pub record IsSnapshotRun (h : List Transaction) (order : List ℕ) (begin commit : ℕ → ℕ) : Type 0 where
  pub rises : Rises commit order
  pub committed : (t : ℕ) → Ended h t Committed → Has order t
  pub may_run : (t : ℕ) → Has order t → MayRun h t
  pub begins : (t : ℕ) → Has order t → begin t < commit t
  pub sees : (t : ℕ) → Has order t → SeesAll (operations_of h t) (λ k. appended_by h k (before_time commit (begin t) order))
  pub apart : (t u k v w : ℕ) → t ≢ u → Has order t → Has order u → Appends h t k v → Appends h u k w
      → (commit t < begin u) ⊎ (commit u < begin t)

-- there is a snapshot run
abbrev pub IsSnapshotIsolated : List Transaction → Type 0
IsSnapshotIsolated h = (order : List ℕ) × (begin : ℕ → ℕ) × (commit : ℕ → ℕ) × IsSnapshotRun h order begin commit
