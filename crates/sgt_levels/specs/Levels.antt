-- The edges of the weaker levels, and what they say of each run.
use Rattle.std.specs.Prelude.{◌≢◌, ◌<◌, ◌≤◌, ◌⊎◌, ℕ, List}
use Rattle.sgt_appends.specs.declared.transaction.Status.TheVariants.{Committed}
use Rattle.sgt_appends.specs.declared.transaction.Transaction.{Transaction}
use Rattle.sgt_appends.specs.Lists.{Has, Rises}
use Rattle.sgt_appends.specs.Runs.{Ended, MayRun}
use Rattle.sgt_appends.specs.Precedences.{Appends, Reads, HasSeen, AppendsOnce, WasSeen, WasMissed, WereSeen}
use Rattle.sgt_appends.specs.Faults.{IsFault}
use Rattle.sgt_appends.specs.Orders.{UnknownOnlyAppend, AllClean}
use Rattle.sgt_levels.specs.Steps.{PathBy}
use Rattle.sgt_levels.specs.Snapshots.{IsSnapshotRun, IsSnapshotIsolated}

-- a reader saw a value of t, and none yet of u at the same key
pub record WasLate (h : List Transaction) (t u : ℕ) : Type 0 where
  pub reader : ℕ
  pub key : ℕ
  pub first : ℕ
  pub second : ℕ
  pub seen : List ℕ
  pub appends_first : Appends h t key first
  pub appends_second : Appends h u key second
  pub has_seen : HasSeen h reader key seen
  pub has : Has seen first
  pub has_not : ¬ Has seen second

-- t read a list without a value of u, and both append to one key
pub record MustWait (h : List Transaction) (t u : ℕ) : Type 0 where
  pub key : ℕ
  pub first : ℕ
  pub second : ℕ
  pub appends_first : Appends h t key first
  pub appends_second : Appends h u key second
  pub missed : WasMissed h t u

-- u read what t wrote, or wrote at a key after t
abbrev pub Follows : List Transaction → ℕ → ℕ → Type 0
Follows h t u = (t ≢ u) × (WasSeen h t u ⊎ (WereSeen h t u ⊎ WasLate h t u))

-- u follows t, or must wait for it
abbrev pub Depends : List Transaction → ℕ → ℕ → Type 0
Depends h t u = Follows h t u ⊎ ((t ≢ u) × MustWait h t u)

-- t read a list that u wrote only later
abbrev pub Misses : List Transaction → ℕ → ℕ → Type 0
Misses h t u = (t ≢ u) × WasMissed h t u

-- in each snapshot run these edges go forward
abbrev pub SplitIsObeyed : Type 0
SplitIsObeyed = (h : List Transaction) (order : List ℕ) (begin commit : ℕ → ℕ) (t u : ℕ) → AppendsOnce h
    → IsSnapshotRun h order begin commit → Has order u
    → (Depends h t u → commit t < begin u) × (Misses h t u → begin t ≤ commit u)

-- v depends on t, or misses one that depends on t
abbrev pub Leads : List Transaction → ℕ → ℕ → Type 0
Leads h t v = Depends h t v ⊎ ((u : ℕ) × Depends h t u × Misses h u v)

-- a path of such steps: no two misses are next to one another
abbrev pub IsSnapshotPath : List Transaction → ℕ → List ℕ → ℕ → Type 0
IsSnapshotPath h = PathBy (Leads h)

-- a cycle without two misses next to one another leaves no snapshot run
abbrev pub SnapshotCyclesAreEnough : Type 0
SnapshotCyclesAreEnough = (h : List Transaction) (t : ℕ) (others : List ℕ) → AppendsOnce h → IsSnapshotPath h t others t
    → ¬ IsSnapshotIsolated h

-- a fault of a read leaves no snapshot run
abbrev pub SnapshotFaultsAreEnough : Type 0
SnapshotFaultsAreEnough = (h : List Transaction) (t k : ℕ) (own seen : List ℕ) → AppendsOnce h → Ended h t Committed
    → Reads h t k own seen → IsFault h t k own seen → ¬ IsSnapshotIsolated h

-- u read what t wrote, or a reader saw a value of t before one of u
abbrev pub Comes : List Transaction → ℕ → ℕ → Type 0
Comes h t u = (t ≢ u) × (WasSeen h t u ⊎ WereSeen h t u)

-- Begins and commits along the edges. Of two that append to one key, one commits before the other begins.
pub record IsSplitAlong (h : List Transaction) (order : List ℕ) (begin commit : ℕ → ℕ) : Type 0 where
  pub rises : Rises commit order
  pub committed : (t : ℕ) → Ended h t Committed → Has order t
  pub may_run : (t : ℕ) → Has order t → MayRun h t
  pub begins : (t : ℕ) → Has order t → begin t < commit t
  pub comes : (t u : ℕ) → MayRun h t → Has order u → Comes h t u → Has order t × (commit t < begin u)
  pub misses : (t u : ℕ) → Has order t → Has order u → Misses h t u → begin t ≤ commit u
  pub apart : (t u k v w : ℕ) → t ≢ u → Has order t → Has order u → Appends h t k v → Appends h u k w
      → (commit t < begin u) ⊎ (commit u < begin t)

-- if no read has a fault, begins and commits along the edges are a snapshot run
abbrev pub SplitsAreEnough : Type 0
SplitsAreEnough = (h : List Transaction) (order : List ℕ) (begin commit : ℕ → ℕ) → AppendsOnce h → UnknownOnlyAppend h
    → AllClean h → IsSplitAlong h order begin commit → IsSnapshotRun h order begin commit

-- of two that append to one key, one depends on the other
abbrev pub AreDecided : List Transaction → List ℕ → Type 0
AreDecided h order = (t u k v w : ℕ) → t ≢ u → Has order t → Has order u → Appends h t k v → Appends h u k w → Depends h t u ⊎ Depends h u t

-- begins and commits along the edges alone
pub record IsAlongSplit (h : List Transaction) (order : List ℕ) (begin commit : ℕ → ℕ) : Type 0 where
  pub rises : Rises commit order
  pub committed : (t : ℕ) → Ended h t Committed → Has order t
  pub may_run : (t : ℕ) → Has order t → MayRun h t
  pub begins : (t : ℕ) → Has order t → begin t < commit t
  pub depends : (t u : ℕ) → MayRun h t → Has order u → Depends h t u → Has order t × (commit t < begin u)
  pub misses : (t u : ℕ) → Has order t → Has order u → Misses h t u → begin t ≤ commit u

-- if the edges decide between all that append to one key, begins and commits along them are a snapshot run
abbrev pub DecidedSplitsAreEnough : Type 0
DecidedSplitsAreEnough = (h : List Transaction) (order : List ℕ) (begin commit : ℕ → ℕ) → AppendsOnce h → UnknownOnlyAppend h
    → AllClean h → AreDecided h order → IsAlongSplit h order begin commit → IsSnapshotRun h order begin commit

-- a committed transaction saw a value of t or of u at a key to which both append
pub record OneWasSeen (h : List Transaction) (t u k v w : ℕ) : Type 0 where
  pub reader : ℕ
  pub seen : List ℕ
  pub has_seen : HasSeen h reader k seen
  pub has : Has seen v ⊎ Has seen w

-- where one of the two was seen, the edges decide
abbrev pub SeenAreDecided : Type 0
SeenAreDecided = (h : List Transaction) (t u k v w : ℕ) → AppendsOnce h → t ≢ u → Appends h t k v → Appends h u k w
    → OneWasSeen h t u k v w → Depends h t u ⊎ Depends h u t
