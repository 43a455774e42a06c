-- The contents of the code's tables.
use Rattle.std.specs.Prelude.{◌≡◌, ◌⊎◌, ◌++◌, ℕ, List, [], ◌∷◌, Option, Some, None, Bool, true, false, length}
use Rattle.std.proofs.Common.{get_or}
use Rattle.sgt_appends.specs.declared.transaction.Transaction.{Transaction}
use Rattle.sgt_appends.specs.Lists.{Has, IsOnce, Rises}
use Rattle.sgt_appends.specs.Runs.{MayRun}
use Rattle.std.specs.BTreeMap.{get}
use Rattle.std.specs.Ordering.{nat_cmp}
use Rattle.std.specs.Global.{Vec}
use Rattle.sgt_appends.specs.declared.contents.Contents.{Contents}

-- the items of a list, or none if there is no list
abbrev pub items_or_none : Option (Vec ℕ) → List ℕ
items_or_none None = []
items_or_none (Some list) = list.items

-- the current list of the key
abbrev pub stands : Contents → ℕ → List ℕ
stands contents key = items_or_none (get nat_cmp contents.lists key)

-- each transaction is named once and may have taken effect, and exactly these are marked
pub record IsNamed (h : List Transaction) (ts : List ℕ) (marks : List Bool) : Type 0 where
  pub once : IsOnce ts
  pub may_run : (t : ℕ) → Has ts t → MayRun h t
  pub marked : (t : ℕ) → Has ts t → get_or marks t false ≡ true
  pub named : (t : ℕ) → get_or marks t false ≡ true → Has ts t
  pub long : length marks ≡ length h

-- the order has those of the nodes that are transactions and not aborted, in the same order
pub record AreNotAborted (h : List Transaction) (nodes order : List ℕ) : Type 0 where
  pub may_run : (t : ℕ) → Has order t → MayRun h t
  pub among : (t : ℕ) → Has order t → Has nodes t
  pub all : (t : ℕ) → Has nodes t → MayRun h t → Has order t
  pub rises : (rank : ℕ → ℕ) → Rises rank nodes → Rises rank order

-- the node is added at the end, if it is a transaction that is not aborted
abbrev pub IsNodeAdded : List Transaction → List ℕ → List ℕ → ℕ → Type 0
IsNodeAdded h old new node = (MayRun h node × (new ≡ old ++ node ∷ [])) ⊎ ((¬ MayRun h node) × (new ≡ old))
