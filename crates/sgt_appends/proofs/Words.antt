-- Laws of the definitions on lists of numbers.
use Rattle.std.proofs.Common.{◌≡◌, ◌≢◌, ◌⊎◌, ℕ, List, [], ◌∷◌, ◌++◌, refl, sym, ap, ◌∙◌, subst, inl, inr, arith, append_assoc}
use Rattle.std.proofs.lemmas.Bool.{cases_eq}
use Rattle.sgt_appends.specs.Lists.{Has, IsOnce, StandsBefore}

pub Has-append_left : (xs ys : List ℕ) (x : ℕ) → Has xs x → Has (xs ++ ys) x
Has-append_left [] ys x has = absurd has
Has-append_left (y ∷ xs) ys x (inl same) = inl same
Has-append_left (y ∷ xs) ys x (inr later) = inr (Has-append_left xs ys x later)

pub Has-append_right : (xs ys : List ℕ) (x : ℕ) → Has ys x → Has (xs ++ ys) x
Has-append_right [] ys x has = has
Has-append_right (y ∷ xs) ys x has = inr (Has-append_right xs ys x has)

pub Has-append_cases : (xs ys : List ℕ) (x : ℕ) → Has (xs ++ ys) x → Has xs x ⊎ Has ys x
Has-append_cases [] ys x has = inr has
Has-append_cases (y ∷ xs) ys x (inl same) = inl (inl same)
Has-append_cases (y ∷ xs) ys x (inr later) = elim (Has-append_cases xs ys x later) [
  | inl w ↦ inl (inr w)
  | inr w ↦ inr w
]

-- what is not in the front of a list is in the rest
pub stands_after : (xs ys front back : List ℕ) (x : ℕ) → xs ++ ys ≡ front ++ x ∷ back → ¬ Has xs x
    → (middle : List ℕ) × (ys ≡ middle ++ x ∷ back)
stands_after [] ys front back x same not_there = (front, same)
stands_after (y ∷ xs) ys [] back x same not_there = absurd (not_there (inl (grind arith)))
stands_after (y ∷ xs) ys (z ∷ front) back x same not_there =
    stands_after xs ys front back x (grind arith) (λ there. not_there (inr there))

pub StandsBefore-cons : (z : ℕ) (xs : List ℕ) (x y : ℕ) → StandsBefore xs x y → StandsBefore (z ∷ xs) x y
StandsBefore-cons z xs x y it = (z ∷ it.0, it.1, ap (λ ws. z ∷ ws) it.2, it.3)

pub StandsBefore-front : (zs xs : List ℕ) (x y : ℕ) → StandsBefore xs x y → StandsBefore (zs ++ xs) x y
StandsBefore-front zs xs x y it = (zs ++ it.0, it.1, ap (λ ws. zs ++ ws) it.2 ∙ sym (append_assoc zs it.0 (x ∷ it.1)), it.3)

pub StandsBefore-back : (xs zs : List ℕ) (x y : ℕ) → StandsBefore xs x y → StandsBefore (xs ++ zs) x y
StandsBefore-back xs zs x y it =
    (it.0, it.1 ++ zs, ap (λ ws. ws ++ zs) it.2 ∙ append_assoc it.0 (x ∷ it.1) zs, Has-append_left it.1 zs y it.3)

-- by cases on the head
pub StandsBefore-cases : (z : ℕ) (xs : List ℕ) (x y : ℕ) → StandsBefore (z ∷ xs) x y → ((z ≡ x) × Has xs y) ⊎ StandsBefore xs x y
StandsBefore-cases z xs x y it = go it.0 it.2
  where
    go : (front : List ℕ) → z ∷ xs ≡ front ++ x ∷ it.1 → ((z ≡ x) × Has xs y) ⊎ StandsBefore xs x y
    go [] same =
        let tails : xs ≡ it.1 = cc in
        let heads : z ≡ x = cc in
        inl (heads, subst (λ ws. Has ws y) (sym tails) it.3)
    go (w ∷ front) same =
        let tails : xs ≡ front ++ x ∷ it.1 = cc in
        inr (front, it.1, tails, it.3)

pub StandsBefore-has : (xs : List ℕ) (x y : ℕ) → StandsBefore xs x y → Has xs x × Has xs y
StandsBefore-has [] x y it = absurd (not_empty it.0 it.2)
  where
    not_empty : (front : List ℕ) → ¬ ([] ≡ front ++ x ∷ it.1)
    not_empty [] same = cc
    not_empty (w ∷ front) same = cc
StandsBefore-has (z ∷ xs) x y it = elim (StandsBefore-cases z xs x y it) [
  | inl w ↦ (inl w.0, inr w.1)
  | inr w ↦ let both = StandsBefore-has xs x y w in (inr both.0, inr both.1)
]

-- if two numbers stand in both orders, one stands twice
pub not_both : (xs : List ℕ) (x y : ℕ) → IsOnce xs → StandsBefore xs x y → ¬ StandsBefore xs y x
not_both [] x y once one other = absurd (StandsBefore-has [] x y one).0
not_both (z ∷ xs) x y once one other = elim (StandsBefore-cases z xs x y one) [
  | inl w ↦ elim (StandsBefore-cases z xs y x other) [
    | inl v ↦ once.0 (subst (λ n. Has xs n) (sym v.0) w.1)
    | inr v ↦ once.0 (subst (λ n. Has xs n) (sym w.0) (StandsBefore-has xs y x v).1)
  ]
  | inr w ↦ elim (StandsBefore-cases z xs y x other) [
    | inl v ↦ once.0 (subst (λ n. Has xs n) (sym v.0) (StandsBefore-has xs x y w).1)
    | inr v ↦ not_both xs x y once.1 w v
  ]
]

pub IsOnce-append : (xs ys : List ℕ) → IsOnce xs → IsOnce ys → ((x : ℕ) → Has xs x → ¬ Has ys x) → IsOnce (xs ++ ys)
IsOnce-append [] ys once others apart = others
IsOnce-append (x ∷ xs) ys once others apart = (first, IsOnce-append xs ys once.1 others (λ y has. apart y (inr has)))
  where
    first : ¬ Has (xs ++ ys) x
    first has = elim (Has-append_cases xs ys x has) [
      | inl w ↦ once.0 w
      | inr w ↦ apart x (inl refl) w
    ]

pub IsOnce-front : (xs ys : List ℕ) → IsOnce (xs ++ ys) → IsOnce xs
IsOnce-front [] ys once = tt
IsOnce-front (x ∷ xs) ys once = ((λ has. once.0 (Has-append_left xs ys x has)), IsOnce-front xs ys once.1)

-- lists with the same numbers in the same order, none twice, are equal
pub same_lists : (xs ys : List ℕ) → IsOnce xs → IsOnce ys → ((x : ℕ) → Has xs x → Has ys x) → ((x : ℕ) → Has ys x → Has xs x)
    → ((x y : ℕ) → StandsBefore xs x y → StandsBefore ys x y) → xs ≡ ys
same_lists [] [] once other have has stand = refl
same_lists [] (y ∷ ys) once other have has stand = absurd (has y (inl refl))
same_lists (x ∷ xs) [] once other have has stand = absurd (have x (inl refl))
same_lists (x ∷ xs) (y ∷ ys) once other have has stand = elim (cases_eq x y) [
  | inl same ↦
      ap (λ z. z ∷ xs) same ∙ ap (λ zs. y ∷ zs) (same_lists xs ys once.1 other.1
      (λ z there. later y ys z (have z (inr there)) (λ e. once.0 (subst (λ w. Has xs w) (sym (same ∙ e)) there)))
      (λ z there. later x xs z (has z (inr there)) (λ e. other.0 (subst (λ w. Has ys w) (sym (sym same ∙ e)) there)))
      (λ z w before. elim (StandsBefore-cases y ys z w (stand z w (StandsBefore-cons x xs z w before))) [
        | inl v ↦ absurd (once.0 (subst (λ n. Has xs n) (sym (same ∙ v.0)) (StandsBefore-has xs z w before).0))
        | inr v ↦ v
      ]))
  | inr differ ↦
      let there : Has xs y = later x xs y (has y (inl refl)) differ in
      elim (StandsBefore-cases y ys x y (stand x y ([], xs, refl, there))) [
        | inl v ↦ absurd (differ (sym v.0))
        | inr v ↦ absurd (other.0 (StandsBefore-has ys x y v).1)
      ]
]
  where
    later : (z : ℕ) (zs : List ℕ) (w : ℕ) → Has (z ∷ zs) w → z ≢ w → Has zs w
    later z zs w (inl same) no_way = absurd (no_way same)
    later z zs w (inr there) no_way = there

-- two numbers of a list stand in one order or the other
pub stand_somehow : (xs : List ℕ) (x y : ℕ) → Has xs x → Has xs y → x ≢ y → StandsBefore xs x y ⊎ StandsBefore xs y x
stand_somehow [] x y has other differ = absurd has
stand_somehow (z ∷ xs) x y (inl same) (inl too) differ = absurd (differ (sym same ∙ too))
stand_somehow (z ∷ xs) x y (inl same) (inr there) differ = inl ([], xs, ap (λ w. w ∷ xs) same, there)
stand_somehow (z ∷ xs) x y (inr there) (inl same) differ = inr ([], xs, ap (λ w. w ∷ xs) same, there)
stand_somehow (z ∷ xs) x y (inr there) (inr other) differ = elim (stand_somehow xs x y there other differ) [
  | inl w ↦ inl (StandsBefore-cons z xs x y w)
  | inr w ↦ inr (StandsBefore-cons z xs y x w)
]

-- a number of the one list stands before one of the other
pub across : (xs ys : List ℕ) (x y : ℕ) → Has xs x → Has ys y → StandsBefore (xs ++ ys) x y
across [] ys x y has there = absurd has
across (z ∷ xs) ys x y (inl same) there = ([], xs ++ ys, ap (λ w. w ∷ (xs ++ ys)) same, Has-append_right xs ys y there)
across (z ∷ xs) ys x y (inr later) there = StandsBefore-cons z (xs ++ ys) x y (across xs ys x y later there)

-- which number stands before another in a list with one more
pub last_stands : (xs : List ℕ) (x v w : ℕ) → StandsBefore (xs ++ x ∷ []) v w → StandsBefore xs v w ⊎ (Has xs v × (x ≡ w))
last_stands [] x v w it = elim (StandsBefore-cases x [] v w it) [
  | inl a ↦ absurd a.1
  | inr a ↦ absurd (StandsBefore-has [] v w a).0
]
last_stands (z ∷ xs) x v w it = elim (StandsBefore-cases z (xs ++ x ∷ []) v w it) [
  | inl a ↦ elim (Has-append_cases xs (x ∷ []) w a.1) [
    | inl b ↦ inl ([], xs, ap (λ q. q ∷ xs) a.0, b)
    | inr b ↦ inr (inl a.0, only x w b)
  ]
  | inr a ↦ elim (last_stands xs x v w a) [
    | inl b ↦ inl (StandsBefore-cons z xs v w b)
    | inr b ↦ inr (inr b.0, b.1)
  ]
]
  where
    only : (x w : ℕ) → Has (x ∷ []) w → x ≡ w
    only x w (inl same) = same
    only x w (inr none) = absurd none
