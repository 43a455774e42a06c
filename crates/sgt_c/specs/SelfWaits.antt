-- Which calls that rest without a deadline wait for themselves.
use Rattle.std.specs.Prelude.{◌≡◌, ◌⊎◌, ◌<◌, ◌+◌, ℕ, Bool, true, false, length, get_or, slice_get, List, [], ◌∷◌, Some}
use Rattle.sgt_c.specs.declared.shared.waiting.SgtNote.{SgtNote}

-- the transaction with this number is one of a set of the noted ones, which says of each by its index whether it is in it
abbrev pub IsAmong : List SgtNote → List Bool → ℕ → Type 0
IsAmong notes set t = (i : ℕ) × (n : SgtNote) × (slice_get notes i ≡ Some n) × (get_or set i false ≡ true) × (n.tid ≡ t)

-- all noted transactions are in the set
abbrev pub AreAll : List Bool → Type 0
AreAll set = (i : ℕ) → i < length set → get_or set i false ≡ true

-- the thread of a transaction of the set rests until one of the set has ended: 1 for another transaction, 2 and 3 until any has ended, 4
-- for a cut of its own, which waits until all have, and 5 for a cut of another thread, if one waits
abbrev pub IsHeldUp : List SgtNote → Bool → List Bool → SgtNote → Type 0
IsHeldUp notes cuts set n = ((n.rests ≡ 1) × IsAmong notes set n.first) ⊎ (((n.rests ≡ 2) ⊎ (n.rests ≡ 3)) × AreAll set) ⊎ (n.rests ≡ 4)
    ⊎ ((n.rests ≡ 5) × (cuts ≡ true))

-- each transaction of the set rests until another of the set has ended, so none of them ever ends
abbrev pub IsDeadlock : List SgtNote → Bool → List Bool → Type 0
IsDeadlock notes cuts set = (i : ℕ) (n : SgtNote) → slice_get notes i ≡ Some n → get_or set i false ≡ true → IsHeldUp notes cuts set n

-- the set has a transaction of this thread; of a cut, which waits for all, any counts
abbrev pub Concerns : List SgtNote → List Bool → ℕ → Bool → Type 0
Concerns notes set thread is_cut = (i : ℕ) × (n : SgtNote) × (slice_get notes i ≡ Some n) × (get_or set i false ≡ true)
    × ((is_cut ≡ true) ⊎ (n.thread ≡ thread))

-- a call of this thread waits for transactions that never end, since each waits for another of them
abbrev pub WaitsForItself : List SgtNote → Bool → ℕ → Bool → Type 0
WaitsForItself notes cuts thread is_cut = (set : List Bool) × (length set ≡ length notes) × IsDeadlock notes cuts set
    × Concerns notes set thread is_cut

-- ---- how it is found

-- what is in the one set is in the other
abbrev pub IsWithin : List Bool → List Bool → Type 0
IsWithin small large = (i : ℕ) → get_or small i false ≡ true → get_or large i false ≡ true

-- the transaction at this index is in the set, and is not held up by it
abbrev pub IsFree : List SgtNote → Bool → List Bool → ℕ → Type 0
IsFree notes cuts set i = (n : SgtNote) × (slice_get notes i ≡ Some n) × (get_or set i false ≡ true) × (¬ IsHeldUp notes cuts set n)

-- how many are in it
abbrev pub count_in : List Bool → ℕ
count_in [] = 0
count_in (true ∷ set) = count_in set + 1
count_in (false ∷ set) = count_in set
