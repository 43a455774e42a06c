-- Accesses in any order that represent a list, and the masks in front of them: for each hash of a key, the places of the
-- transactions that have read and written such keys.
use Rattle.std.specs.Prelude.{◌≡◌, ◌≢◌, ℕ, ◌+◌, ◌*◌, ◌/◌, ◌%◌, ◌^◌, ◌<◌, ◌↔◌, Bool, true, false, not, ◌&&◌, cond, nat_eq, count_by, unsigned_abs, List, [], ◌++◌, length, slice_index, slice_index_or, Option, Some, None, IsSome}
use Rattle.std.specs.List.{list_any}
use Rattle.sgt_model.specs.declared.kind.Kind.{Kind}
use Rattle.sgt_model.specs.Contents.{Key, key_eq}
use Rattle.sgt_model.specs.Accesses.{is_store}
use Rattle.sgt_model.specs.AccessList.{ListedAccess, is_listed, lists_conflicting}
use Rattle.sgt_cycle.specs.Indices.{is_set}
use Rattle.sgt_access.specs.Places.{is_at}
use Rattle.sgt_access.specs.declared.spot.Spot.{Spot}
use Rattle.sgt_access.specs.declared.masks.Masks.{Masks}
use Rattle.sgt_access.specs.declared.masks.Rivals.{Rivals}
use Rattle.sgt_access.specs.declared.masks.Rivals.TheVariants.{At, Unknown}

-- each test is passed by as many of the accesses as of the list
abbrev pub StandsFor : List ListedAccess → List ListedAccess → Type 0
StandsFor list accesses = (p : ListedAccess → Bool) → count_by p accesses ≡ count_by p list

-- the rest are the accesses without this one
abbrev pub IsOneLess : ListedAccess → List ListedAccess → List ListedAccess → Type 0
IsOneLess access accesses rest = (p : ListedAccess → Bool) → count_by p rest + cond (p access) 1 0 ≡ count_by p accesses

-- the index of a key's spot
abbrev pub spot_at : Key → ℕ
spot_at key = ((unsigned_abs key.1 * 8 + key.0) * 15485907386658061715) % 2 ^ 64 / 2 ^ 54

-- an access is a read at this spot
abbrev pub reads_at : ℕ → ListedAccess → Bool
reads_at index a = nat_eq (spot_at a.key) index && not (is_store a.kind)

-- an access is a write at this spot
abbrev pub writes_at : ℕ → ListedAccess → Bool
writes_at index a = nat_eq (spot_at a.key) index && is_store a.kind

-- an access is at this spot, and of another key
abbrev pub has_other_key : ℕ → Key → ListedAccess → Bool
has_other_key index key a = nat_eq (spot_at a.key) index && not (key_eq a.key key)

-- some transaction is at the place, and has an access that passes the test
abbrev pub HasAt : ℕ → List ℕ → List ListedAccess → (ListedAccess → Bool) → ℕ → Type 0
HasAt taken tids accesses test i = (is_set taken i ≡ true) × (list_any (λ (a : ListedAccess). nat_eq a.by (slice_index tids i) && test a) accesses ≡ true)

-- a set has the places of the transactions with such an access
abbrev pub IsMask : ℕ → List ℕ → List ListedAccess → (ListedAccess → Bool) → ℕ → Type 0
IsMask taken tids accesses test set = (i : ℕ) → (is_set set i ≡ true) ↔ HasAt taken tids accesses test i

-- a spot has the places of its readers and of its writers, and if it is not mixed, all its accesses are of its key
pub record IsSpotOf (taken : ℕ) (tids : List ℕ) (accesses : List ListedAccess) (index : ℕ) (spot : Spot) : Type 0 where
  pub readers : IsMask taken tids accesses (reads_at index) spot.readers
  pub writers : IsMask taken tids accesses (writes_at index) spot.writers
  pub one_key : spot.is_mixed ≡ false → list_any (has_other_key index spot.key) accesses ≡ false

-- there are 32 places; no transaction has two of them; and each with an access has one
pub record ArePlaces (taken : ℕ) (tids : List ℕ) (accesses : List ListedAccess) : Type 0 where
  pub size : length tids ≡ 32
  pub apart : (i j t : ℕ) → is_at taken tids t i ≡ true → is_at taken tids t j ≡ true → i ≡ j
  pub listed : (t : ℕ) → is_listed accesses t ≡ true → (i : ℕ) × (is_at taken tids t i ≡ true)

-- places and spots are those of these accesses, and there are 1,024 spots
pub record AreMasks (taken : ℕ) (tids : List ℕ) (spots : List Spot) (accesses : List ListedAccess) : Type 0 where
  pub places : ArePlaces taken tids accesses
  pub many : length spots ≡ 1024
  pub spots_are : (index : ℕ) (d : Spot) → index < length spots → IsSpotOf taken tids accesses index (slice_index_or spots index d)

-- masks that have spots are those of these accesses
abbrev pub Covers : Masks → List ListedAccess → Type 0
Covers m accesses = 0 < length m.spots.items → AreMasks m.places.taken m.places.tids m.spots.items accesses

-- an access is of a transaction other than t
abbrev pub is_of_other : ℕ → ListedAccess → Bool
is_of_other t a = not (nat_eq a.by t)

-- either all accesses are of one transaction, and the masks have none; or the masks have all
abbrev pub Knows : Option ℕ → Masks → List ListedAccess → Type 0
Knows (Some t) m accesses = (list_any (is_of_other t) accesses ≡ false) × Covers m []
Knows None m accesses = Covers m accesses

-- accesses in two lists represent a list, of which this is known; while all are of one transaction, the second has none
pub record Holds (list : List ListedAccess) (only : Option ℕ) (masks : Masks) (accesses others : List ListedAccess) : Type 0 where
  pub stands : StandsFor list (accesses ++ others)
  pub knows : Knows only masks list
  pub alone : IsSome only → others ≡ []

-- the transactions at these places are exactly the rivals of an access
abbrev pub AreRivalsAt : List ListedAccess → List ℕ → ℕ → Key → Kind → ℕ → Type 0
AreRivalsAt accesses tids t key kind set = (u : ℕ) → ((i : ℕ) × (is_set set i ≡ true) × (slice_index tids i ≡ u))
    ↔ ((u ≢ t) × (lists_conflicting accesses u key kind ≡ true))

-- what masks say of the rivals of an access is true
abbrev pub IsSaid : List ListedAccess → List ℕ → ℕ → Key → Kind → Rivals → Type 0
IsSaid accesses tids t key kind (At set) = AreRivalsAt accesses tids t key kind set
IsSaid accesses tids t key kind Unknown = Unit {0}

-- the same while the accesses of t are removed one after another: its places may be gone from a set before its last access
pub record IsMaskBut (taken : ℕ) (tids : List ℕ) (t : ℕ) (accesses : List ListedAccess) (test : ListedAccess → Bool) (set : ℕ) : Type 0 where
  pub sound : (i : ℕ) → is_set set i ≡ true → HasAt taken tids accesses test i
  pub whole : (i : ℕ) → is_at taken tids t i ≡ false → HasAt taken tids accesses test i → is_set set i ≡ true

-- a spot, likewise
pub record IsSpotBut (taken : ℕ) (tids : List ℕ) (t : ℕ) (accesses : List ListedAccess) (index : ℕ) (spot : Spot) : Type 0 where
  pub readers : IsMaskBut taken tids t accesses (reads_at index) spot.readers
  pub writers : IsMaskBut taken tids t accesses (writes_at index) spot.writers
  pub one_key : spot.is_mixed ≡ false → list_any (has_other_key index spot.key) accesses ≡ false

-- places and spots, likewise: the transaction is at the places of this set
pub record AreMasksBut (taken : ℕ) (tids : List ℕ) (spots : List Spot) (t set : ℕ) (accesses : List ListedAccess) : Type 0 where
  pub place : (i : ℕ) → is_set set i ≡ is_at taken tids t i
  pub places : ArePlaces taken tids accesses
  pub many : length spots ≡ 1024
  pub spots_are : (index : ℕ) (d : Spot) → index < length spots → IsSpotBut taken tids t accesses index (slice_index_or spots index d)

-- the transaction is at these places, and its accesses are being removed
abbrev pub IsLeaving : Masks → ℕ → ℕ → List ListedAccess → Type 0
IsLeaving m t set accesses = 0 < length m.spots.items → AreMasksBut m.places.taken m.places.tids m.spots.items t set accesses
