-- Replays of an order of commits: which lists stood when, and what each read may see.
use Rattle.std.specs.Prelude.{◌≡◌, ◌≢◌, ◌≤◌, ◌<◌, ◌+◌, ◌-◌, ◌⊎◌, ◌++◌, ℕ, List, [], Option, Some, None, length, get_or, take, slice_get}
use Rattle.std.specs.BTreeMap.{get}
use Rattle.std.specs.Ordering.{nat_cmp}
use Rattle.std.specs.Global.{Vec}
use Rattle.sgt_appends.specs.declared.transaction.Operation.{Operation}
use Rattle.sgt_appends.specs.declared.transaction.Operation.TheVariants.{Append, Read}
use Rattle.sgt_appends.specs.declared.transaction.Transaction.{Transaction}
use Rattle.sgt_appends.specs.Lists.{Has, IsPrefix}
use Rattle.sgt_appends.specs.Runs.{operations_of}
use Rattle.sgt_appends.specs.Precedences.{appended, Appends}
use Rattle.sgt_appends.specs.Guides.{appended_by}
use Rattle.sgt_levels.specs.declared.columns.Column.{Column}
use Rattle.sgt_levels.specs.declared.columns.Columns.{Columns}

-- the values of a list, or none if there is no list
abbrev pub values_or_none : Option Column → List ℕ
values_or_none None = []
values_or_none (Some column) = column.values.items

-- the places of a list, or none if there is no list
abbrev pub places_or_none : Option Column → List ℕ
places_or_none None = []
places_or_none (Some column) = column.places.items

-- the values of the key
abbrev pub values_in : Columns → ℕ → List ℕ
values_in columns k = values_or_none (get nat_cmp columns.columns k)

-- for each of them the place in the order of its appender
abbrev pub places_in : Columns → ℕ → List ℕ
places_in columns k = places_or_none (get nat_cmp columns.columns k)

-- exactly the values of the base were appended before the place
pub record IsFront (values places base : List ℕ) (start : ℕ) : Type 0 where
  pub prefix : IsPrefix base values
  pub before : (length base ≡ 0) ⊎ (get_or places (length base - 1) 0 < start)
  pub after : (length places ≤ length base) ⊎ (start ≤ get_or places (length base) 0)

-- how many values the first transactions of the order leave at the key
abbrev pub count_of : List Transaction → List ℕ → ℕ → ℕ → ℕ
count_of h order k i = length (appended_by h k (take i order))

-- the first i transactions of the order have left these lists, with the places of the appenders
pub record IsReplayed (h : List Transaction) (order : List ℕ) (i : ℕ) (values places : ℕ → List ℕ) : Type 0 where
  pub values_are : (k : ℕ) → values k ≡ appended_by h k (take i order)
  pub long : (k : ℕ) → length (places k) ≡ length (values k)
  pub placed : (k m : ℕ) → m < length (values k) → (count_of h order k (get_or (places k) m 0) ≤ m)
      × (m < count_of h order k (get_or (places k) m 0 + 1))

-- A read of the transaction at the place sees what the first transactions of the order have left, as many as the start
-- says, and its own appends. Without a start it may be any number, but all before the place once it has appended.
abbrev pub SeenFrom : List Transaction → List ℕ → ℕ → Option ℕ → ℕ → List ℕ → List ℕ → Type 0
SeenFrom h order i (Some start) k own seen = seen ≡ appended_by h k (take start order) ++ own
SeenFrom h order i None k own seen = (start : ℕ) × (start ≤ i) × (own ≢ [] → start ≡ i) × (seen ≡ appended_by h k (take start order) ++ own)

-- the start of a read after the reader's own appends
abbrev pub StartIs : Option ℕ → ℕ → List ℕ → ℕ → Type 0
StartIs (Some start) i own from = from ≡ start
StartIs None i own from = own ≢ [] → from ≡ i

-- the operation, if it is a read, sees that
abbrev pub OperationHolds : List Transaction → List ℕ → ℕ → Option ℕ → (ℕ → List ℕ) → Operation → Type 0
OperationHolds h order i start mine (Append key value) = Unit {0}
OperationHolds h order i start mine (Read key values) = SeenFrom h order i start key (mine key) values.items

-- each read of the operations sees that
abbrev pub HoldOver : List Transaction → List ℕ → ℕ → Option ℕ → List Operation → Type 0
HoldOver h order i start os = (p k : ℕ) (values : Vec ℕ) → slice_get os p ≡ Some (Read k values)
    → SeenFrom h order i start k (appended k (take p os)) values.items

-- each read of the transaction at the place sees what had been committed
abbrev pub AreHeld : List Transaction → List ℕ → ℕ → Type 0
AreHeld h order i = HoldOver h order i None (operations_of h (get_or order i 0))

-- each read of the transaction at the place sees what had been committed at its start, and no other one has appended to
-- its keys since
pub record IsSnapshotHeld (h : List Transaction) (order : List ℕ) (i start : ℕ) : Type 0 where
  pub early : start ≤ i
  pub reads : HoldOver h order i (Some start) (operations_of h (get_or order i 0))
  pub free : (u k v w : ℕ) → Has (take i order) u → Appends h u k v → Appends h (get_or order i 0) k w → Has (take start order) u

-- the same for each place of the order, with the start that the list has there
abbrev pub IsSnapshotReplay : List Transaction → List ℕ → List ℕ → Type 0
IsSnapshotReplay h order starts = (i : ℕ) → i < length order → IsSnapshotHeld h order i (get_or starts i 0)
