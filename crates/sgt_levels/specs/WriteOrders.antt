-- Read uncommitted, PL-1: committed transactions write in one order, the same at all keys.
use Rattle.std.specs.Prelude.{◌≢◌, ◌⊎◌, ℕ, List, take}
use Rattle.sgt_appends.specs.declared.transaction.Status.TheVariants.{Committed}
use Rattle.sgt_appends.specs.declared.transaction.Transaction.{Transaction}
use Rattle.sgt_appends.specs.Lists.{Has, IsOnce, StandsBefore}
use Rattle.sgt_appends.specs.Reads.{IsReadAt}
use Rattle.sgt_appends.specs.Runs.{Ended}
use Rattle.sgt_appends.specs.Precedences.{Appends, AppendsOnce, WereSeen}
use Rattle.sgt_levels.specs.Steps.{PathBy}
use Rattle.sgt_levels.specs.Levels.{WasLate}
use Rattle.sgt_levels.specs.Commits.{IsCommittedRun}

-- Two committed transactions append to one key. A committed reader saw the value of t before that of u, or that of t and
-- none yet of u.
abbrev pub Overwrites : List Transaction → ℕ → ℕ → Type 0
Overwrites h t u = Ended h t Committed × Ended h u Committed × (t ≢ u) × (WereSeen h t u ⊎ WasLate h t u)

-- A write order has each committed transaction once. If one is overwritten by another, it stands before it. (A value shows
-- who appended it only if no value is appended twice.)
pub record IsWriteOrder (h : List Transaction) (order : List ℕ) : Type 0 where
  pub once : IsOnce order
  pub committed : (t : ℕ) → Ended h t Committed → Has order t
  pub along : (t u : ℕ) → AppendsOnce h → Overwrites h t u → StandsBefore order t u

-- there is a write order
abbrev pub IsReadUncommitted : List Transaction → Type 0
IsReadUncommitted h = (order : List ℕ) × IsWriteOrder h order

-- a path on which each is overwritten by the next
abbrev pub IsWritePath : List Transaction → ℕ → List ℕ → ℕ → Type 0
IsWritePath h = PathBy (Overwrites h)

-- a cycle of such steps leaves no write order
abbrev pub WriteCyclesAreEnough : Type 0
WriteCyclesAreEnough = (h : List Transaction) (t : ℕ) (others : List ℕ) → AppendsOnce h → IsWritePath h t others t → ¬ IsReadUncommitted h

-- a run of committed reads is a write order
abbrev pub CommittedIsUncommitted : Type 0
CommittedIsUncommitted = (h : List Transaction) (order : List ℕ) → IsCommittedRun h order → IsWriteOrder h order

-- a committed transaction appends the value to the key
abbrev pub IsWritten : List Transaction → ℕ → ℕ → Type 0
IsWritten h k v = (t : ℕ) × Ended h t Committed × Appends h t k v

-- the values of the first list that committed transactions append to the key are the second list, in the same order
pub record AreKept (h : List Transaction) (k : ℕ) (seen kept : List ℕ) : Type 0 where
  pub there : (v : ℕ) → Has seen v → IsWritten h k v → Has kept v
  pub from : (v : ℕ) → Has kept v → Has seen v
  pub before : (v w : ℕ) → StandsBefore seen v w → IsWritten h k v → IsWritten h k w → StandsBefore kept v w

-- the same, and the second list is the front of a list
abbrev pub AreFirst : List Transaction → ℕ → List ℕ → List ℕ → Type 0
AreFirst h k seen list = (n : ℕ) × AreKept h k seen (take n list)

-- what transaction t, if it committed, read at position p is the front of the list of its key
abbrev pub FitsAt : List Transaction → (ℕ → List ℕ) → ℕ → ℕ → Type 0
FitsAt h lists t p = (k : ℕ) (seen : List ℕ) → Ended h t Committed → IsReadAt h t p k seen → AreFirst h k seen (lists k)

-- the same at each position
abbrev pub FitsIn : List Transaction → (ℕ → List ℕ) → ℕ → Type 0
FitsIn h lists t = (p : ℕ) → FitsAt h lists t p

-- the same of every transaction
abbrev pub AllFit : List Transaction → (ℕ → List ℕ) → Type 0
AllFit h lists = (t : ℕ) → FitsIn h lists t
