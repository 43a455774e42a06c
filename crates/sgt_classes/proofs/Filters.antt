-- Positions in a filtered list and in two appended lists.
use Rattle.std.proofs.Common.{◌≡◌, ◌<◌, ◌+◌, ◌⊎◌, ℕ, zero, suc, Bool, true, false, cond, List, [], ◌∷◌, ◌++◌, take, length, Some, refl, sym, ap, ◌∙◌, subst, inl, inr, arith}
use Rattle.std.specs.Prelude.{slice_get, filter}
use Rattle.std.specs.List.{list_any}
use Rattle.std.proofs.lemmas.Bool.{cases_eq, cases_lt, or_left, or_right, or_cases, both_ways}
use Rattle.sgt_classes.proofs.ClosedPaths.{nothing_there}

-- the element at 0 is the first
front_is : {X : Type 0} (y : X) (ys : List X) (x : X) → slice_get (y ∷ ys) 0 ≡ Some x → y ≡ x
front_is y ys x at = cc

-- the new position of an element that passes is the number of elements before it that pass
pub kept_there : {X : Type 0} (p : X → Bool) (xs : List X) (i : ℕ) (x : X) → slice_get xs i ≡ Some x → p x ≡ true
    → slice_get (filter p xs) (length (filter p (take i xs))) ≡ Some x
kept_there p [] i x at is = absurd (nothing_there i x at)
kept_there p (y ∷ ys) zero x at is =
    subst (λ b. slice_get (cond b (y ∷ filter p ys) (filter p ys)) 0 ≡ Some x) (sym (ap p (front_is y ys x at) ∙ is)) at
kept_there p (y ∷ ys) (suc i) x at is = go (p y) (kept_there p ys i x at is)
  where
    go : (b : Bool) → slice_get (filter p ys) (length (filter p (take i ys))) ≡ Some x
        → slice_get (cond b (y ∷ filter p ys) (filter p ys))
        (length (cond b (y ∷ filter p (take i ys)) (filter p (take i ys)))) ≡ Some x
    go true further = further
    go false further = further

-- if i is below j and the element at i passes, more pass before j than before i
pub kept_rises : {X : Type 0} (p : X → Bool) (xs : List X) (i j : ℕ) (x : X) → i < j → slice_get xs i ≡ Some x → p x ≡ true
    → length (filter p (take i xs)) < length (filter p (take j xs))
kept_rises p [] i j x less at is = absurd (nothing_there i x at)
kept_rises p (y ∷ ys) zero zero x less at is = absurd (omega (arith, less))
kept_rises p (y ∷ ys) zero (suc j) x less at is =
    subst (λ b. 0 < length (cond b (y ∷ filter p (take j ys)) (filter p (take j ys))))
    (sym (ap p (front_is y ys x at) ∙ is)) (omega arith)
kept_rises p (y ∷ ys) (suc i) zero x less at is = absurd (omega (arith, less))
kept_rises p (y ∷ ys) (suc i) (suc j) x less at is = go (p y) (kept_rises p ys i j x (omega (arith, less)) at is)
  where
    go : (b : Bool) → length (filter p (take i ys)) < length (filter p (take j ys))
        → length (cond b (y ∷ filter p (take i ys)) (filter p (take i ys)))
        < length (cond b (y ∷ filter p (take j ys)) (filter p (take j ys)))
    go true further = omega (arith, further)
    go false further = further

-- if more pass before j than before i, i is below j
pub kept_apart : {X : Type 0} (p : X → Bool) (xs : List X) (i j : ℕ) (y : X) → slice_get xs j ≡ Some y → p y ≡ true
    → length (filter p (take i xs)) < length (filter p (take j xs)) → i < j
kept_apart p xs i j y at is less = elim (cases_lt i j) [
  | inl before ↦ before
  | inr most ↦ elim (cases_eq j i) [
    | inl same ↦ absurd (omega (arith, less, ap (λ n. length (filter p (take n xs))) same))
    | inr apart ↦
        let turned = kept_rises p xs j i y (omega (arith, most, apart)) at is in
        absurd (omega (arith, less, turned))
  ]
]

-- an element of the filtered list was in the list and passes
pub kept_found : {X : Type 0} (p : X → Bool) (xs : List X) (k : ℕ) (x : X) → slice_get (filter p xs) k ≡ Some x
    → (i : ℕ) × (slice_get xs i ≡ Some x) × (p x ≡ true) × (length (filter p (take i xs)) ≡ k)
kept_found p [] k x at = absurd (nothing_there k x at)
kept_found {X} p (y ∷ ys) k x at = go (p y) refl k at (λ n there. kept_found p ys n x there)
  where
    go : (b : Bool) → p y ≡ b → (n : ℕ) → slice_get (cond b (y ∷ filter p ys) (filter p ys)) n ≡ Some x
        → ((m : ℕ) → slice_get (filter p ys) m ≡ Some x
        → (i : ℕ) × (slice_get ys i ≡ Some x) × (p x ≡ true) × (length (filter p (take i ys)) ≡ m))
        → (i : ℕ) × (slice_get (y ∷ ys) i ≡ Some x) × (p x ≡ true) × (length (filter p (take i (y ∷ ys))) ≡ n)
    go true is zero there further = (0, there, ap p (sym (front_is y ys x there)) ∙ is, refl)
    go true is (suc n) there further =
        let w = further n there in (
          suc w.0,
          w.1,
          w.2,
          ap (λ b. length (cond b (y ∷ filter p (take w.0 ys)) (filter p (take w.0 ys)))) is ∙ ap suc w.3,
        )
    go false is n there further =
        let w = further n there in (
          suc w.0,
          w.1,
          w.2,
          ap (λ b. length (cond b (y ∷ filter p (take w.0 ys)) (filter p (take w.0 ys)))) is ∙ w.3,
        )

-- if every element that passes q passes p, filtering by p first changes nothing for q
pub same_filtered : {X : Type 0} (p q : X → Bool) (xs : List X) → ((x : X) → q x ≡ true → p x ≡ true)
    → filter q (filter p xs) ≡ filter q xs
same_filtered p q [] keeps = refl
same_filtered p q (x ∷ xs) keeps = go (p x) (q x) refl refl (same_filtered p q xs keeps)
  where
    go : (b c : Bool) → p x ≡ b → q x ≡ c → filter q (filter p xs) ≡ filter q xs
        → filter q (cond b (x ∷ filter p xs) (filter p xs)) ≡ cond c (x ∷ filter q xs) (filter q xs)
    go true c is test further =
        ap (λ b. cond b (x ∷ filter q (filter p xs)) (filter q (filter p xs))) test ∙ ap (λ l. cond c (x ∷ l) l) further
    go false true is test further = absurd (both_ways (p x) is (keeps x test))
    go false false is test further = further

-- if no element that passes q passes p, filtering by p first leaves none for q
pub none_filtered : {X : Type 0} (p q : X → Bool) (xs : List X) → ((x : X) → q x ≡ true → p x ≡ false)
    → filter q (filter p xs) ≡ []
none_filtered p q [] drops = refl
none_filtered p q (x ∷ xs) drops = go (p x) (q x) refl refl (none_filtered p q xs drops)
  where
    go : (b c : Bool) → p x ≡ b → q x ≡ c → filter q (filter p xs) ≡ []
        → filter q (cond b (x ∷ filter p xs) (filter p xs)) ≡ []
    go true true is test further = absurd (both_ways (p x) (drops x test) is)
    go true false is test further = ap (λ b. cond b (x ∷ filter q (filter p xs)) (filter q (filter p xs))) test ∙ further
    go false c is test further = further

-- an element of two appended lists is in the first or in the second
pub joined_cases : {X : Type 0} (xs ys : List X) (i : ℕ) (x : X) → slice_get (xs ++ ys) i ≡ Some x
    → ((i < length xs) × (slice_get xs i ≡ Some x)) ⊎ ((k : ℕ) × (i ≡ length xs + k) × (slice_get ys k ≡ Some x))
joined_cases [] ys i x at = inr (i, omega arith, at)
joined_cases (y ∷ xs) ys zero x at = inl (omega arith, at)
joined_cases (y ∷ xs) ys (suc i) x at = elim (joined_cases xs ys i x at) [
  | inl w ↦ inl (omega (arith, w.0), w.1)
  | inr w ↦ inr (w.0, omega (arith, w.1), w.2)
]

-- if an element passes, `list_any` is true
pub any_at : {X : Type 0} (p : X → Bool) (xs : List X) (i : ℕ) (x : X) → slice_get xs i ≡ Some x → p x ≡ true
    → list_any p xs ≡ true
any_at p [] i x at is = absurd (nothing_there i x at)
any_at p (y ∷ ys) zero x at is = or_left (p y) (list_any p ys) (ap p (front_is y ys x at) ∙ is)
any_at p (y ∷ ys) (suc i) x at is = or_right (p y) (list_any p ys) (any_at p ys i x at is)

-- if `list_any` is true, an element passes
pub any_found : {X : Type 0} (p : X → Bool) (xs : List X) → list_any p xs ≡ true
    → (i : ℕ) × (x : X) × (slice_get xs i ≡ Some x) × (p x ≡ true)
any_found p [] some = absurd (both_ways false refl some)
any_found p (y ∷ ys) some = elim (or_cases (p y) (list_any p ys) some) [
  | inl here ↦ (0, y, refl, here)
  | inr further ↦ let w = any_found p ys further in (suc w.0, w.1, w.2, w.3)
]
