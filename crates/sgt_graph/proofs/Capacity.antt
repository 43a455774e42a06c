-- How many nodes and edges there can be.
use Rattle.std.specs.Prelude.{◌≡◌, ◌≢◌, ℕ, ◌≤◌, ◌+◌, true, ◌⊎◌, List, [], ◌∷◌, ◌++◌, length}
use Rattle.std.proofs.Common.{zero, suc, refl, sym, ◌∙◌, ap, inl, inr, arith, length-append}
use Rattle.std.proofs.lemmas.Bool.{both_ways}
use Rattle.sgt_model.specs.Paths.{Member}
use Rattle.sgt_cycle.specs.Links.{is_link}
use Rattle.sgt_graph.specs.PairGraphs.{Once}
use Rattle.sgt_graph.proofs.Lists.{pair_cases, pair_here, pair_there}

-- each edge is there once, and never the other way round
OneWay : List (ℕ × ℕ) → Type 0
OneWay [] = Unit {0}
OneWay (p ∷ pairs) = (is_link pairs p.0 p.1 ≡ true → ⊥) × (is_link pairs p.1 p.0 ≡ true → ⊥) × OneWay pairs

one_way : (pairs : List (ℕ × ℕ)) → Once pairs → ((a b : ℕ) → is_link pairs a b ≡ true → is_link pairs b a ≡ true → ⊥) → OneWay pairs
unfolding OneWay
one_way [] once apart = tt
one_way (p ∷ pairs) once apart = (
  (λ h. both_ways _ once.0 h),
  (λ h. apart p.0 p.1 (pair_here p pairs p.0 p.1 refl refl) (pair_there p pairs p.1 p.0 h)),
  one_way pairs once.1 (λ a b there back. apart a b (pair_there p pairs a b there) (pair_there p pairs b a back)),
)

-- the edge is there, or the other way round
Either : List (ℕ × ℕ) → ℕ → ℕ → Type 0
Either pairs a b = (is_link pairs a b ≡ true) ⊎ (is_link pairs b a ≡ true)

-- edges without one of them
removed_pair : (x y : ℕ) (pairs : List (ℕ × ℕ)) → is_link pairs x y ≡ true
    → (left : List (ℕ × ℕ)) × (length pairs ≡ suc (length left))
    × ((a b : ℕ) → is_link pairs a b ≡ true → ((a ≡ x) × (b ≡ y) → ⊥) → is_link left a b ≡ true)
removed_pair x y [] h = cc
removed_pair x y (p ∷ pairs) h = elim (pair_cases p pairs x y h) [
  | inl here ↦ (
    pairs,
    refl,
    λ a b link other. elim (pair_cases p pairs a b link)
        [ inl same ↦ absurd (other (sym same.0 ∙ here.0, sym same.1 ∙ here.1)) | inr k ↦ k ],
  )
  | inr there ↦ let (left, long, keep) = removed_pair x y pairs there in (
    p ∷ left,
    ap suc long,
    λ a b link other. elim (pair_cases p pairs a b link)
        [ inl same ↦ pair_here p left a b same.0 same.1 | inr k ↦ pair_there p left a b (keep a b k other) ],
  )
]

-- so they are no more than others among which each of them is, one way or the other
one_way_fits : (pairs others : List (ℕ × ℕ)) → OneWay pairs → ((a b : ℕ) → is_link pairs a b ≡ true → Either others a b)
    → length pairs ≤ length others
unfolding OneWay Either
one_way_fits [] others o w = omega arith
one_way_fits (p ∷ pairs) others o w = elim (w p.0 p.1 (pair_here p pairs p.0 p.1 refl refl)) [
  | inl there ↦ without p.0 p.1 there o.0 o.1 (λ left each. one_way_fits pairs left o.2 each)
  | inr back ↦ without p.1 p.0 back o.1 o.0 (λ left each. one_way_fits pairs left o.2 each)
]
  where
    without : (x y : ℕ) → is_link others x y ≡ true → (is_link pairs x y ≡ true → ⊥) → (is_link pairs y x ≡ true → ⊥)
        → ((left : List (ℕ × ℕ)) → ((a b : ℕ) → is_link pairs a b ≡ true → (is_link left a b ≡ true) ⊎ (is_link left b a ≡ true))
        → length pairs ≤ length left) → length (p ∷ pairs) ≤ length others
    without x y link never back fits =
        let (left, long, keep) = removed_pair x y others link in
        let rest : length pairs ≤ length left = fits left (λ a b h. elim (w a b (pair_there p pairs a b h)) [
          | inl there ↦ inl (keep a b there (λ same. never (rw (← same.0, ← same.1) h)))
          | inr turned ↦ inr (keep b a turned (λ same. back (rw (← same.0, ← same.1) h)))
        ]) in
        omega arith

-- an edge from x to each of the numbers
pairs_from : ℕ → List ℕ → List (ℕ × ℕ)
pairs_from x [] = []
pairs_from x (y ∷ ys) = (x, y) ∷ pairs_from x ys

-- an edge of each two numbers
all_pairs : List ℕ → List (ℕ × ℕ)
all_pairs [] = []
all_pairs (x ∷ xs) = pairs_from x xs ++ all_pairs xs

from_has : (x y : ℕ) (ys : List ℕ) → Member y ys → is_link (pairs_from x ys) x y ≡ true
unfolding pairs_from
from_has x y [] m = absurd m
from_has x y (z ∷ ys) (inl e) = pair_here (x, z) (pairs_from x ys) x y refl (sym e)
from_has x y (z ∷ ys) (inr m) = pair_there (x, z) (pairs_from x ys) x y (from_has x y ys m)

link_append : (ps qs : List (ℕ × ℕ)) (a b : ℕ) → (is_link ps a b ≡ true) ⊎ (is_link qs a b ≡ true) → is_link (ps ++ qs) a b ≡ true
link_append [] qs a b (inl h) = cc
link_append [] qs a b (inr h) = h
link_append (p ∷ ps) qs a b (inl h) = elim (pair_cases p ps a b h) [
  | inl here ↦ pair_here p (ps ++ qs) a b here.0 here.1
  | inr there ↦ pair_there p (ps ++ qs) a b (link_append ps qs a b (inl there))
]
link_append (p ∷ ps) qs a b (inr h) = pair_there p (ps ++ qs) a b (link_append ps qs a b (inr h))

all_have : (xs : List ℕ) (a b : ℕ) → Member a xs → Member b xs → a ≢ b → Either (all_pairs xs) a b
unfolding all_pairs Either
all_have [] a b m k apart = absurd m
all_have (x ∷ xs) a b (inl e) (inl f) apart = absurd (apart (e ∙ sym f))
all_have (x ∷ xs) a b (inl e) (inr k) apart = inl (link_append (pairs_from x xs) (all_pairs xs) a b (inl (rw e (from_has x b xs k))))
all_have (x ∷ xs) a b (inr m) (inl f) apart = inr (link_append (pairs_from x xs) (all_pairs xs) b a (inl (rw f (from_has x a xs m))))
all_have (x ∷ xs) a b (inr m) (inr k) apart = elim (all_have xs a b m k apart) [
  | inl there ↦ inl (link_append (pairs_from x xs) (all_pairs xs) a b (inr there))
  | inr back ↦ inr (link_append (pairs_from x xs) (all_pairs xs) b a (inr back))
]

-- 0 + 1 + .. + (n - 1)
sum_below : ℕ → ℕ
sum_below zero = 0
sum_below (suc n) = n + sum_below n

sum_below_rises : (m n : ℕ) → m ≤ n → sum_below m ≤ sum_below n
unfolding sum_below
sum_below_rises zero n h = omega arith
sum_below_rises (suc m) zero h = absurd (omega arith)
sum_below_rises (suc m) (suc n) h = let less : sum_below m ≤ sum_below n = sum_below_rises m n (omega arith) in omega arith

length-from : (x : ℕ) (ys : List ℕ) → length (pairs_from x ys) ≡ length ys
unfolding pairs_from
length-from x [] = refl
length-from x (y ∷ ys) = ap suc (length-from x ys)

length-all : (xs : List ℕ) → length (all_pairs xs) ≡ sum_below (length xs)
unfolding all_pairs sum_below
length-all [] = refl
length-all (x ∷ xs) =
    let more : length (pairs_from x xs ++ all_pairs xs) ≡ length (pairs_from x xs) + length (all_pairs xs) =
    length-append (pairs_from x xs) (all_pairs xs) in
    omega (arith, length-from x xs, length-all xs)

-- 32 nodes have at most 496 edges
pub pairs_fit : (nodes : List ℕ) (pairs : List (ℕ × ℕ)) → length nodes ≤ 32 → Once pairs
    → ((a b : ℕ) → is_link pairs a b ≡ true → Member a nodes × Member b nodes × (a ≢ b))
    → ((a b : ℕ) → is_link pairs a b ≡ true → is_link pairs b a ≡ true → ⊥) → length pairs ≤ 496
unfolding sum_below
pairs_fit nodes pairs few once ends apart =
    let fits : length pairs ≤ length (all_pairs nodes) = one_way_fits pairs (all_pairs nodes) (one_way pairs once apart)
    (λ a b h. let (m, k, differ) = ends a b h in all_have nodes a b m k differ) in
    let most : sum_below (length nodes) ≤ 496 = sum_below_rises (length nodes) 32 few in
    omega (arith, length-all nodes)
