-- The positions of two lists in their concatenation.
use Rattle.std.proofs.Common.{◌≡◌, ◌<◌, ◌≤◌, ◌+◌, ◌⊎◌, ℕ, zero, suc, List, [], ◌∷◌, ◌++◌, length, Some, inl, inr, arith}
use Rattle.std.specs.Prelude.{slice_get}

-- the element stands there in the first list
abbrev pub InFirst : {A : Type 0} → List A → ℕ → A → Type 0
InFirst h i x = (i < length h) × (slice_get h i ≡ Some x)

-- the element is at that position in the second list, after the first
abbrev pub InSecond : {A : Type 0} → List A → List A → ℕ → A → Type 0
InSecond h l i x = (j : ℕ) × (i ≡ length h + j) × (slice_get l j ≡ Some x)

pub split_at : {A : Type 0} (h l : List A) (i : ℕ) (x : A) → slice_get (h ++ l) i ≡ Some x → InFirst h i x ⊎ InSecond h l i x
split_at [] l i x at = inr (i, omega arith, at)
split_at (y ∷ h) l zero x at = inl (omega arith, at)
split_at (y ∷ h) l (suc i) x at = elim (split_at h l i x at) [
  | inl old ↦ inl (omega (arith, old.0), old.1)
  | inr new ↦ inr (new.0, omega (arith, new.1), new.2)
]

pub in_first : {A : Type 0} (h l : List A) (i : ℕ) (x : A) → slice_get h i ≡ Some x → slice_get (h ++ l) i ≡ Some x
in_first [] l i x at = absurd (cc)
in_first (y ∷ h) l zero x at = at
in_first (y ∷ h) l (suc i) x at = in_first h l i x at

pub in_second : {A : Type 0} (h l : List A) (j : ℕ) (x : A) → slice_get l j ≡ Some x
    → (i : ℕ) × (length h ≤ i) × (slice_get (h ++ l) i ≡ Some x)
in_second [] l j x at = (j, omega arith, at)
in_second (y ∷ h) l j x at = let p = in_second h l j x at in (suc p.0, omega (arith, p.1), p.2)

-- at a position of the first list is its own element
pub still : {A : Type 0} (h l : List A) (i : ℕ) (x : A) → i < length h → slice_get (h ++ l) i ≡ Some x → slice_get h i ≡ Some x
still [] l i x within at = absurd (omega (arith, within))
still (y ∷ h) l zero x within at = at
still (y ∷ h) l (suc i) x within at = still h l i x (omega (arith, within)) at
