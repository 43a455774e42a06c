-- Orders along the precedences: if no read has a fault, each of them is a serial run.
use Rattle.std.specs.Prelude.{◌≡◌, ◌++◌, ℕ, List}
use Rattle.sgt_appends.specs.declared.transaction.Status.TheVariants.{Committed, Unknown}
use Rattle.sgt_appends.specs.declared.transaction.Transaction.{Transaction}
use Rattle.sgt_appends.specs.Lists.{Has, IsOnce, StandsBefore}
use Rattle.sgt_appends.specs.Runs.{operations_of, Ended, MayRun, IsSerialRun}
use Rattle.sgt_appends.specs.Precedences.{appended, Appends, Reads, AppendsOnce, Precedes}

-- the premise: a transaction with an unknown end has no observed reads
abbrev pub UnknownOnlyAppend : List Transaction → Type 0
UnknownOnlyAppend h = (t k : ℕ) (own seen : List ℕ) → Ended h t Unknown → ¬ Reads h t k own seen

-- a read of t at the key has no fault
pub record IsClean (h : List Transaction) (t k : ℕ) (own seen : List ℕ) : Type 0 where
  pub written : (value : ℕ) → Has seen value → (u : ℕ) × Appends h u k value × MayRun h u
  pub once : IsOnce seen
  pub in_order : (u first second : ℕ) → StandsBefore (appended k (operations_of h u)) first second → ¬ StandsBefore seen second first
  pub base : List ℕ
  pub ends : seen ≡ base ++ own
  pub not_ahead : (value : ℕ) → Has seen value → Appends h t k value → Has own value

-- no read has a fault
abbrev pub AllClean : List Transaction → Type 0
AllClean h = (t k : ℕ) (own seen : List ℕ) → Ended h t Committed → Reads h t k own seen → IsClean h t k own seen

-- An order of each committed one, no aborted one, any unknown ones. If one transaction precedes another, it stands
-- before it.
pub record IsAlong (h : List Transaction) (order : List ℕ) : Type 0 where
  pub once : IsOnce order
  pub committed : (t : ℕ) → Ended h t Committed → Has order t
  pub may_run : (t : ℕ) → Has order t → MayRun h t
  pub along : (t u : ℕ) → MayRun h t → Has order u → Precedes h t u → StandsBefore order t u

-- if no read has a fault, an order along the precedences is a serial run
abbrev pub OrdersAreEnough : Type 0
OrdersAreEnough = (h : List Transaction) (order : List ℕ) → AppendsOnce h → UnknownOnlyAppend h → AllClean h → IsAlong h order
    → IsSerialRun h order
