-- Positions of appends, and the index of them that the code builds.
use Rattle.std.specs.Prelude.{◌≡◌, ◌<◌, ◌⊎◌, ℕ, List, Option, Some, None, slice_get, if◌then◌else◌}
use Rattle.std.specs.BTreeMap.{get}
use Rattle.std.specs.Ordering.{is_eq, nat_cmp, ordering_then}
use Rattle.std.specs.declared.cmp.Ordering.{Ordering}
use Rattle.sgt_appends.specs.declared.append_index.AppendIndex.{AppendIndex}
use Rattle.sgt_appends.specs.declared.transaction.Operation.{Operation}
use Rattle.sgt_appends.specs.declared.transaction.Operation.TheVariants.{Append, Read}
use Rattle.sgt_appends.specs.declared.transaction.Transaction.{Transaction}
use Rattle.sgt_appends.specs.Runs.{operations_of}

-- by the key, then by the value
abbrev pub pair_cmp : ℕ × ℕ → ℕ × ℕ → Ordering
pair_cmp a b = ordering_then (nat_cmp a.0 b.0) (nat_cmp a.1 b.1)

-- for a key and a value: the transaction that appends it, and the position of the append in it
abbrev pub Positions : Type 0
Positions = ℕ → ℕ → Option (ℕ × ℕ)

-- the contents of the index
abbrev pub position_of : AppendIndex → Positions
position_of appends k v = get pair_cmp appends.positions (k, v)

-- transaction t appends the value to the key at position p
abbrev pub AppendAt : List Transaction → ℕ → ℕ → ℕ → ℕ → Type 0
AppendAt h t p k v = slice_get (operations_of h t) p ≡ Some (Append k v)

-- the index has exactly the appends of the history
pub record IsIndex (h : List Transaction) (at : Positions) : Type 0 where
  pub found : (k v t p : ℕ) → at k v ≡ Some (t, p) → AppendAt h t p k v
  pub all : (k v t p : ℕ) → AppendAt h t p k v → at k v ≡ Some (t, p)

-- position p of transaction t comes before position j of transaction i
abbrev pub IsEarlier : ℕ → ℕ → ℕ → ℕ → Type 0
IsEarlier t p i j = (t < i) ⊎ ((t ≡ i) × (p < j))

-- the index has exactly the appends before position j of transaction i
pub record IsFiled (h : List Transaction) (i j : ℕ) (at : Positions) : Type 0 where
  pub found : (k v t p : ℕ) → at k v ≡ Some (t, p) → AppendAt h t p k v × IsEarlier t p i j
  pub all : (k v t p : ℕ) → AppendAt h t p k v → IsEarlier t p i j → at k v ≡ Some (t, p)

-- the value of an append was new, and now has its position
abbrev pub IsNoted : Operation → ℕ → ℕ → Positions → Positions → Type 0
IsNoted (Append key value) t p old new = (old key value ≡ None)
    × ((k v : ℕ) → new k v ≡ (if is_eq (pair_cmp (key, value) (k, v)) then Some (t, p) else old k v))
IsNoted (Read key values) t p old new = (k v : ℕ) → new k v ≡ old k v

-- the value of an append was in the index already
abbrev pub IsTaken : Operation → Positions → Type 0
IsTaken (Append key value) old = ¬ (old key value ≡ None)
IsTaken (Read key values) old = ⊥
