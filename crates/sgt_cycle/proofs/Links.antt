-- Links, one after another.
use Rattle.std.specs.Prelude.{◌≡◌, ℕ, ◌<◌, true, ◌&&◌, ◌||◌, ◌⊎◌, nat_eq, List, [], ◌∷◌, length, slice_index_or}
use Rattle.std.proofs.Common.{zero, suc, refl, inl, inr, arith}
use Rattle.std.proofs.lemmas.Bool.{eq-eqb, eqb-true, and_from, and_parts, or_left, or_right, or_cases}
use Rattle.sgt_cycle.specs.Links.{is_link, is_end}

-- what stands in the list is a link
pub link_at : (links : List (ℕ × ℕ)) (i : ℕ) (d : ℕ × ℕ) → i < length links
    → is_link links (slice_index_or links i d).0 (slice_index_or links i d).1 ≡ true
link_at [] i d below = absurd (omega arith)
link_at (l ∷ links) zero d below = or_left (nat_eq l.0 l.0 && nat_eq l.1 l.1) _ (and_from _ _ (eq-eqb l.0 l.0 refl) (eq-eqb l.1 l.1 refl))
link_at (l ∷ links) (suc i) d below = or_right _ _ (link_at links i d (omega arith))

-- a link of a list is its first, or one of the others
pub link_cases : (l : ℕ × ℕ) (links : List (ℕ × ℕ)) (a b : ℕ) → is_link (l ∷ links) a b ≡ true
    → ((l.0 ≡ a) × (l.1 ≡ b)) ⊎ (is_link links a b ≡ true)
link_cases l links a b h = elim (or_cases (nat_eq l.0 a && nat_eq l.1 b) _ h) [
  | inl here ↦ let (first, second) = and_parts (nat_eq l.0 a) (nat_eq l.1 b) here in inl (eqb-true l.0 a first, eqb-true l.1 b second)
  | inr there ↦ inr there
]

-- both numbers of a link are ends
pub link_ends : (links : List (ℕ × ℕ)) (a b : ℕ) → is_link links a b ≡ true → (is_end links a ≡ true) × (is_end links b ≡ true)
link_ends [] a b h = cc
link_ends (l ∷ links) a b h = elim (link_cases l links a b h) [
  | inl here ↦ (
    or_left (nat_eq l.0 a || nat_eq l.1 a) _ (or_left _ _ (eq-eqb l.0 a here.0)),
    or_left (nat_eq l.0 b || nat_eq l.1 b) _ (or_right _ _ (eq-eqb l.1 b here.1)),
  )
  | inr there ↦ let (first, second) = link_ends links a b there in (or_right _ _ first, or_right _ _ second)
]
