-- What a read and an append imply for the line of their key.
use Rattle.std.specs.Prelude.{◌≡◌, ◌≢◌, ◌⊎◌, ◌++◌, ℕ, List, ◌∷◌, Some, true}
use Rattle.std.specs.BTreeSet.{BTreeSet, contains}
use Rattle.std.specs.Ordering.{nat_cmp}
use Rattle.sgt_appends.specs.Lists.{Has}
use Rattle.sgt_appends.specs.Indexes.{Positions}
use Rattle.sgt_appends.specs.Lines.{KeyLines, values_in}

-- the number is in the set
abbrev pub has_number : BTreeSet ℕ → ℕ → Type 0
has_number set v = contains nat_cmp set v ≡ true

-- the value was seen, or the index says that the reader appends it itself
abbrev pub IsKnownBy : Positions → ℕ → ℕ → List ℕ → ℕ → Type 0
IsKnownBy at r k seen v = Has seen v ⊎ ((p : ℕ) × (at k v ≡ Some (r, p)))

-- another transaction appends the value, at this position, and it was not seen
abbrev pub IsUnknownBy : Positions → ℕ → ℕ → List ℕ → ℕ → ℕ × ℕ → Type 0
IsUnknownBy at r k seen v x = (¬ Has seen v) × (at k v ≡ Some x) × (x.0 ≢ r)

-- this is the append of the line's first value that the reader does not know
abbrev pub IsFirstUnknown : Positions → ℕ → ℕ → List ℕ → List ℕ → ℕ × ℕ → Type 0
IsFirstUnknown at r k seen line x = (front : List ℕ) × (w : ℕ) × (back : List ℕ) × (line ≡ front ++ w ∷ back)
    × ((v : ℕ) → Has front v → IsKnownBy at r k seen v) × IsUnknownBy at r k seen w x

-- each value of the line has its position in the index
abbrev pub AreIndexed : Positions → ℕ → List ℕ → Type 0
AreIndexed at k line = (v : ℕ) → Has line v → (x : ℕ × ℕ) × (at k v ≡ Some x)

-- each value of each line has its position in the index
abbrev pub AreAllIndexed : Positions → KeyLines → Type 0
AreAllIndexed at lines = (k : ℕ) → AreIndexed at k (values_in lines k)
