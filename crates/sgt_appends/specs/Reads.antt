-- Reads at their positions, their faults, and the state of a scan of a read.
use Rattle.std.specs.Prelude.{◌≡◌, ◌<◌, ◌≤◌, ◌++◌, ℕ, List, Option, Some, slice_get}
use Rattle.std.proofs.Common.{take}
use Rattle.std.specs.BTreeMap.{BTreeMap, get}
use Rattle.std.specs.Ordering.{nat_cmp}
use Rattle.std.specs.Global.{Vec}
use Rattle.sgt_appends.specs.declared.transaction.Operation.TheVariants.{Read}
use Rattle.sgt_appends.specs.declared.transaction.Status.TheVariants.{Committed, Unknown}
use Rattle.sgt_appends.specs.declared.transaction.Transaction.{Transaction}
use Rattle.sgt_appends.specs.declared.fault.Fault.{Fault}
use Rattle.sgt_appends.specs.declared.fault.Fault.TheVariants.{Unwritten, Aborted, Twice, Swapped, EndsOtherwise, Ahead, Incompatible}
use Rattle.sgt_appends.specs.Lists.{Has, StandsBefore, IsPrefix}
use Rattle.sgt_appends.specs.Runs.{operations_of, Ended, MayRun}
use Rattle.sgt_appends.specs.Precedences.{appended, Appends}
use Rattle.sgt_appends.specs.Orders.{IsClean}
use Rattle.sgt_appends.specs.Indexes.{Positions, AppendAt}

-- transaction t reads these values at the key at position p
abbrev pub IsReadAt : List Transaction → ℕ → ℕ → ℕ → List ℕ → Type 0
IsReadAt h t p k seen = (values : Vec ℕ) × (slice_get (operations_of h t) p ≡ Some (Read k values)) × (values.items ≡ seen)

-- what the operations of t before position p append to the key
abbrev pub own_at : List Transaction → ℕ → ℕ → ℕ → List ℕ
own_at h t p k = appended k (take p (operations_of h t))

-- the meaning of each fault of a read of t at the key; it saw these values, and t had appended `own` before
abbrev pub Faults : List Transaction → ℕ → ℕ → List ℕ → List ℕ → Fault → Type 0
Faults h t k own seen (Unwritten value) = Has seen value × ((u : ℕ) → Appends h u k value → ¬ MayRun h u)
Faults h t k own seen (Aborted by append) = (v : ℕ) × AppendAt h by append k v × Has seen v × ((u : ℕ) → Appends h u k v → ¬ MayRun h u)
Faults h t k own seen (Twice value) = StandsBefore seen value value
Faults h t k own seen (Swapped by first second) = (v : ℕ) × (w : ℕ) × (first < second) × AppendAt h by first k v × AppendAt h by second k w
    × StandsBefore seen w v
Faults h t k own seen EndsOtherwise = (base : List ℕ) → ¬ (seen ≡ base ++ own)
Faults h t k own seen (Ahead append) = (v : ℕ) × AppendAt h t append k v × (¬ Has own v) × Has seen v
Faults h t k own seen (Incompatible other read) = (list : List ℕ) × Ended h other Committed × IsReadAt h other read k list
    × (¬ IsPrefix seen list) × (¬ IsPrefix list seen)

-- the committed transaction has at this position a read with the fault
abbrev pub HasFault : List Transaction → ℕ → ℕ → Fault → Type 0
HasFault h t p fault = (k : ℕ) × (seen : List ℕ) × Ended h t Committed × IsReadAt h t p k seen × Faults h t k (own_at h t p k) seen fault

-- a read of the committed transaction at this position has no fault
abbrev pub IsCleanAt : List Transaction → ℕ → ℕ → Type 0
IsCleanAt h t p = (k : ℕ) (seen : List ℕ) → Ended h t Committed → IsReadAt h t p k seen → IsClean h t k (own_at h t p k) seen

-- no read of the transaction has a fault
abbrev pub AreCleanIn : List Transaction → ℕ → Type 0
AreCleanIn h t = (p : ℕ) → IsCleanAt h t p

-- for each transaction a position
abbrev pub Lasts : Type 0
Lasts = ℕ → Option ℕ

-- the contents of the map
abbrev pub last_in : BTreeMap ℕ ℕ → Lasts
last_in map t = get nat_cmp map t

-- The meaning of a fault at one value that a read of t at position p saw. `last` has for each transaction the position
-- of its last value before.
abbrev pub IsFaultAt : List Transaction → Positions → ℕ → ℕ → ℕ → Lasts → ℕ → Fault → Type 0
IsFaultAt h at t p k last value (Unwritten v) = (v ≡ value) × ((u : ℕ) → Appends h u k value → ¬ MayRun h u)
IsFaultAt h at t p k last value (Aborted by append) = (at k value ≡ Some (by, append)) × ((u : ℕ) → Appends h u k value → ¬ MayRun h u)
IsFaultAt h at t p k last value (Twice v) = (v ≡ value) × (u : ℕ) × (q : ℕ) × (at k value ≡ Some (u, q)) × (last u ≡ Some q)
IsFaultAt h at t p k last value (Swapped by first second) = (at k value ≡ Some (by, first)) × (last by ≡ Some second) × (first < second)
IsFaultAt h at t p k last value EndsOtherwise = ⊥
IsFaultAt h at t p k last value (Ahead append) = (at k value ≡ Some (t, append)) × (p ≤ append)
IsFaultAt h at t p k last value (Incompatible other read) = ⊥

-- The value has no fault. Its appender may have run, is not the reader at a later position, and appends it after its
-- last value seen.
abbrev pub IsPassedOne : List Transaction → Positions → ℕ → ℕ → ℕ → Lasts → Lasts → ℕ → Type 0
IsPassedOne h at t p k old new value = (u : ℕ) × (q : ℕ) × (at k value ≡ Some (u, q)) × MayRun h u × (u ≡ t → q < p)
    × ((r : ℕ) → old u ≡ Some r → r < q) × (new u ≡ Some q) × ((w : ℕ) → ¬ (w ≡ u) → new w ≡ old w)

-- these values of the read have no fault
pub record IsPassed (h : List Transaction) (at : Positions) (t p k : ℕ) (vs : List ℕ) (last : Lasts) : Type 0 where
  pub written : (v : ℕ) → Has vs v → (u : ℕ) × (q : ℕ) × (at k v ≡ Some (u, q)) × MayRun h u × (u ≡ t → q < p)
  pub last_are : (u q : ℕ) → last u ≡ Some q → (v : ℕ) × Has vs v × (at k v ≡ Some (u, q))
  pub none_later : (v u q : ℕ) → Has vs v → at k v ≡ Some (u, q) → (r : ℕ) × (last u ≡ Some r) × (q ≤ r)
  pub in_order : (v w u q r : ℕ) → StandsBefore vs v w → at k v ≡ Some (u, q) → at k w ≡ Some (u, r) → q < r

-- the transaction with an unknown end has a read at this position
abbrev pub HasUnknownRead : List Transaction → ℕ → ℕ → Type 0
HasUnknownRead h t p = (k : ℕ) × (seen : List ℕ) × Ended h t Unknown × IsReadAt h t p k seen

-- the transaction has no read, or its end is known
abbrev pub HasNoUnknownRead : List Transaction → ℕ → Type 0
HasNoUnknownRead h t = (p k : ℕ) (seen : List ℕ) → Ended h t Unknown → ¬ IsReadAt h t p k seen
