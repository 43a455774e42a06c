-- The search for the first value of a line that a reader does not know.
use Rattle.std.proofs.Common.{◌≡◌, ◌⊎◌, ◌<◌, ◌+◌, ◌++◌, ℕ, zero, suc, Bool, true, false, cond, List, [], ◌∷◌, Some, None, Ordering, Less, Equal, Greater, length, take, drop, get_or, refl, sym, ap, ◌∙◌, subst, inl, inr, arith}
use Rattle.std.specs.Ordering.{nat_cmp, is_eq, MatchOrdering}
use Rattle.std.specs.Cmp.{ranks}
use Rattle.std.proofs.lemmas.List.{take_more}
use Rattle.sgt_appends.specs.Lists.{Has}
use Rattle.sgt_appends.specs.Indexes.{Positions}
use Rattle.sgt_appends.specs.Links.{IsKnownBy, IsUnknownBy, IsFirstUnknown, AreIndexed}
use Rattle.sgt_appends.proofs.Words.{Has-append_left, Has-append_right, Has-append_cases}
use Rattle.sgt_appends.proofs.Spots.{has_at}
use Rattle.sgt_appends.proofs.Pairs.{nat_itself}
use Rattle.sgt_appends.proofs.Noted.{Either}

-- a set with one number inserted
pub noted_number : (x v : ℕ) (old new : Bool) → new ≡ cond (is_eq (nat_cmp x v)) true old
    → Either (new ≡ true) (old ≡ true) (x ≡ v)
noted_number x v old new is = (there (nat_cmp x v) refl, back)
  where
    there : (o : Ordering) → nat_cmp x v ≡ o → new ≡ true → (old ≡ true) ⊎ (x ≡ v)
    there Less at known = inl (sym (is ∙ ap (λ o. cond (is_eq o) true old) at) ∙ known)
    there Equal at known = inr (subst (λ o. MatchOrdering o (x < v) (x ≡ v) (v < x)) at (ranks x v))
    there Greater at known = inl (sym (is ∙ ap (λ o. cond (is_eq o) true old) at) ∙ known)

    either : (b : Bool) → old ≡ true → cond b true old ≡ true
    either true known = refl
    either false known = known

    back : (old ≡ true) ⊎ (x ≡ v) → new ≡ true
    back (inl known) = is ∙ either (is_eq (nat_cmp x v)) known
    back (inr same) =
        is ∙ ap (λ o. cond (is_eq o) true old) (subst (λ w. nat_cmp x w ≡ Equal) same (nat_itself x))

abbrev pub Both : Type 0 → Type 0 → Type 0
Both P Q = (P → Q) × (Q → P)

-- one number more
pub numbers_one : (P R : Type 0) (v i : ℕ) (vs : List ℕ) → i < length vs → Either R P (get_or vs i 0 ≡ v) → Both P (Has (take i vs) v)
    → Both R (Has (take (i + 1) vs) v)
numbers_one P R v i vs within now before = (there, back)
  where
    longer : take (i + 1) vs ≡ take i vs ++ get_or vs i 0 ∷ []
    longer = take_more vs i 0 within

    there : R → Has (take (i + 1) vs) v
    there r = elim (now.0 r) [
      | inl p ↦ subst (λ xs. Has xs v) (sym longer) (Has-append_left (take i vs) (get_or vs i 0 ∷ []) v (before.0 p))
      | inr is ↦ subst (λ xs. Has xs v) (sym longer) (Has-append_right (take i vs) (get_or vs i 0 ∷ []) v (inl is))
    ]

    last : Has (take i vs) v ⊎ Has (get_or vs i 0 ∷ []) v → R
    last (inl has) = now.1 (inl (before.1 has))
    last (inr (inl is)) = now.1 (inr is)
    last (inr (inr never)) = absurd never

    back : Has (take (i + 1) vs) v → R
    back has = last (Has-append_cases (take i vs) (get_or vs i 0 ∷ []) v (subst (λ xs. Has xs v) longer has))

-- one known value more
pub known_more : (at : Positions) (r k : ℕ) (seen line : List ℕ) (i : ℕ) → i < length line
    → ((v : ℕ) → Has (take i line) v → IsKnownBy at r k seen v) → IsKnownBy at r k seen (get_or line i 0)
    → (v : ℕ) → Has (take (i + 1) line) v → IsKnownBy at r k seen v
known_more at r k seen line i within before now v has =
    go (Has-append_cases (take i line) (get_or line i 0 ∷ []) v (subst (λ xs. Has xs v) (take_more line i 0 within) has))
  where
    go : Has (take i line) v ⊎ Has (get_or line i 0 ∷ []) v → IsKnownBy at r k seen v
    go (inl there) = before v there
    go (inr (inl same)) = subst (λ w. IsKnownBy at r k seen w) same now
    go (inr (inr never)) = absurd never

-- what was not found to be unknown is known
pub known_by : (at : Positions) (r k : ℕ) (seen line : List ℕ) (i : ℕ) (H : Type 0) → AreIndexed at k line → i < length line
    → (H → Has seen (get_or line i 0))
    → H ⊎ ((at k (get_or line i 0) ≡ None) ⊎ ((p : ℕ) × (at k (get_or line i 0) ≡ Some (r, p)))) → IsKnownBy at r k seen (get_or line i 0)
known_by at r k seen line i H indexed within have (inl known) = inl (have known)
known_by at r k seen line i H indexed within have (inr (inl none)) =
    let it = indexed (get_or line i 0) (has_at line i (get_or line i 0) within refl) in
    absurd (by it.0 (sym none ∙ it.1))
  where
    by : (y : ℕ × ℕ) → ¬ (None ≡ Some y)
    by y e = cc
known_by at r k seen line i H indexed within have (inr (inr own)) = inr own

split_at : (xs : List ℕ) (i : ℕ) → i < length xs → xs ≡ take i xs ++ get_or xs i 0 ∷ drop (suc i) xs
split_at [] i within = absurd (omega (arith, within))
split_at (x ∷ xs) zero within = refl
split_at (x ∷ xs) (suc i) within = ap (λ zs. x ∷ zs) (split_at xs i (omega (arith, within)))

pub first_one : (at : Positions) (r k : ℕ) (seen line : List ℕ) (i : ℕ) (x : ℕ × ℕ) → i < length line
    → ((v : ℕ) → Has (take i line) v → IsKnownBy at r k seen v) → IsUnknownBy at r k seen (get_or line i 0) x
    → IsFirstUnknown at r k seen line x
first_one at r k seen line i x within before unknown =
    (take i line, get_or line i 0, drop (suc i) line, split_at line i within, before, unknown)
