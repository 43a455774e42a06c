-- A sufficient condition for an order to be a serial run.
use Rattle.std.specs.Prelude.{◌≡◌, ◌≢◌, ◌<◌, ◌⊎◌, ◌++◌, ℕ, List}
use Rattle.std.specs.List.{flat_map}
use Rattle.sgt_appends.specs.declared.transaction.Status.TheVariants.{Committed}
use Rattle.sgt_appends.specs.declared.transaction.Transaction.{Transaction}
use Rattle.sgt_appends.specs.Lists.{Has, Rises}
use Rattle.sgt_appends.specs.Runs.{operations_of, Ended, MayRun, IsSerialRun}
use Rattle.sgt_appends.specs.Precedences.{appended, Appends, Reads}

-- the values that transactions append to the key, one after another
abbrev pub appended_by : List Transaction → ℕ → List ℕ → List ℕ
appended_by h k ts = flat_map (λ t. appended k (operations_of h t)) ts

-- For a read of t: the transactions of the order whose values t saw at the key, in order. Exactly these come before t.
pub record SawThese (h : List Transaction) (order : List ℕ) (rank : ℕ → ℕ) (t k : ℕ) (seen own : List ℕ) : Type 0 where
  pub those : List ℕ
  pub are : seen ≡ appended_by h k those ++ own
  pub rises : Rises rank those
  pub before : (u : ℕ) → Has those u → Has order u × (rank u < rank t)
  pub others : (u value : ℕ) → Has order u → u ≢ t → Appends h u k value → Has those u ⊎ (rank t < rank u)

-- the ranks rise along the order, and exactly those come before each reader whose values it saw
pub record IsGuided (h : List Transaction) (order : List ℕ) (rank : ℕ → ℕ) : Type 0 where
  pub rises : Rises rank order
  pub committed : (t : ℕ) → Ended h t Committed → Has order t
  pub may_run : (t : ℕ) → Has order t → MayRun h t
  pub reads : (t k : ℕ) (own seen : List ℕ) → Has order t → Reads h t k own seen → SawThese h order rank t k seen own

-- an order that is guided is a serial run
abbrev pub GuidesAreEnough : Type 0
GuidesAreEnough = (h : List Transaction) (order : List ℕ) (rank : ℕ → ℕ) → IsGuided h order rank → IsSerialRun h order
