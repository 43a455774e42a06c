-- Read committed: each read sees the list that those have left that had committed by then, with its own appends.
use Rattle.std.specs.Prelude.{◌≡◌, ◌≢◌, ◌⊎◌, ◌++◌, ℕ, List, []}
use Rattle.sgt_appends.specs.declared.transaction.Status.TheVariants.{Committed}
use Rattle.sgt_appends.specs.declared.transaction.Transaction.{Transaction}
use Rattle.sgt_appends.specs.Lists.{Has, IsOnce, StandsBefore}
use Rattle.sgt_appends.specs.Runs.{Ended, MayRun}
use Rattle.sgt_appends.specs.Precedences.{Appends, Reads, AppendsOnce}
use Rattle.sgt_appends.specs.Guides.{appended_by}
use Rattle.sgt_appends.specs.Faults.{IsFault}
use Rattle.sgt_appends.specs.Orders.{UnknownOnlyAppend, AllClean}
use Rattle.sgt_levels.specs.Steps.{PathBy}
use Rattle.sgt_levels.specs.Levels.{Follows}

-- A read of t at the key sees what a front of the order has left, those that had committed by then, and then its own
-- appends. t is not among them. Once t has appended to the key, all those are among them that append to it and commit
-- before t.
pub record IsCommittedRead (h : List Transaction) (order : List ℕ) (t k : ℕ) (own seen : List ℕ) : Type 0 where
  pub front : List ℕ
  pub back : List ℕ
  pub splits : order ≡ front ++ back
  pub sees : seen ≡ appended_by h k front ++ own
  pub not_yet : ¬ Has front t
  pub locked : (u value : ℕ) → own ≢ [] → StandsBefore order u t → Appends h u k value → Has front u

-- A run of committed reads has the transactions in the order of their commits: each committed one, no aborted one, and
-- any of the unknown ones. Each read sees what had been committed.
pub record IsCommittedRun (h : List Transaction) (order : List ℕ) : Type 0 where
  pub once : IsOnce order
  pub committed : (t : ℕ) → Ended h t Committed → Has order t
  pub may_run : (t : ℕ) → Has order t → MayRun h t
  pub reads : (t k : ℕ) (own seen : List ℕ) → Has order t → Reads h t k own seen → IsCommittedRead h order t k own seen

-- there is a run of committed reads
abbrev pub IsReadCommitted : List Transaction → Type 0
IsReadCommitted h = (order : List ℕ) × IsCommittedRun h order

-- in each run of committed reads, one that follows another stands after it
abbrev pub CommitsAreObeyed : Type 0
CommitsAreObeyed = (h : List Transaction) (order : List ℕ) (t u : ℕ) → AppendsOnce h → IsCommittedRun h order → Has order u
    → Follows h t u → StandsBefore order t u

-- a path on which each follows the one before it
abbrev pub IsCommittedPath : List Transaction → ℕ → List ℕ → ℕ → Type 0
IsCommittedPath h = PathBy (Follows h)

-- a cycle of such steps leaves no run of committed reads
abbrev pub CommittedCyclesAreEnough : Type 0
CommittedCyclesAreEnough = (h : List Transaction) (t : ℕ) (others : List ℕ) → AppendsOnce h → IsCommittedPath h t others t
    → ¬ IsReadCommitted h

-- t saw one value of another transaction at the key and not another
abbrev pub IsPartial : List Transaction → ℕ → ℕ → List ℕ → Type 0
IsPartial h t k seen = (u : ℕ) × (v : ℕ) × (w : ℕ) × (u ≢ t) × Appends h u k v × Appends h u k w × Has seen v × (¬ Has seen w)

-- a fault of a read, or a partial one, leaves no run of committed reads
abbrev pub CommittedFaultsAreEnough : Type 0
CommittedFaultsAreEnough = (h : List Transaction) (t k : ℕ) (own seen : List ℕ) → AppendsOnce h → Ended h t Committed
    → Reads h t k own seen → IsFault h t k own seen ⊎ IsPartial h t k seen → ¬ IsReadCommitted h

-- no read is partial
abbrev pub AllWhole : List Transaction → Type 0
AllWhole h = (t k : ℕ) (own seen : List ℕ) → Ended h t Committed → Reads h t k own seen → ¬ IsPartial h t k seen

-- an order of commits along the edges
pub record IsAlongCommits (h : List Transaction) (order : List ℕ) : Type 0 where
  pub once : IsOnce order
  pub committed : (t : ℕ) → Ended h t Committed → Has order t
  pub may_run : (t : ℕ) → Has order t → MayRun h t
  pub along : (t u : ℕ) → MayRun h t → Has order u → Follows h t u → StandsBefore order t u

-- if no read has a fault or is partial, an order of commits along the edges is a run of committed reads
abbrev pub CommitOrdersAreEnough : Type 0
CommitOrdersAreEnough = (h : List Transaction) (order : List ℕ) → AppendsOnce h → UnknownOnlyAppend h → AllClean h → AllWhole h
    → IsAlongCommits h order → IsCommittedRun h order
