-- Members of lists: where they stand, what a push adds, and how many different ones there can be.
use Rattle.std.specs.Prelude.{◌≡◌, ◌≢◌, ℕ, ◌<◌, ◌+◌, ◌⊎◌, ◌↔◌, List, [], ◌∷◌, ◌++◌, length, slice_index, slice_index_or}
use Rattle.std.proofs.Common.{take, add-one, zero, suc, refl, sym, subst, inl, inr, arith}
use Rattle.std.proofs.Math.Seq.{take-suc}
use Rattle.sgt_model.specs.Paths.{Member, Distinct}

-- a member has some index
pub member_at : (x : ℕ) (xs : List ℕ) → Member x xs → (i : ℕ) × (i < length xs) × ((d : ℕ) → slice_index_or xs i d ≡ x)
member_at x [] m = elim m [ ]
member_at x (y ∷ xs) (inl e) = (0, omega arith, λ d. sym e)
member_at x (y ∷ xs) (inr m) = let (i, below, at) = member_at x xs m in (suc i, omega arith, at)

-- the item at an index is a member
pub at_member : (xs : List ℕ) (i d : ℕ) → i < length xs → Member (slice_index_or xs i d) xs
at_member [] i d below = omega arith
at_member (y ∷ xs) zero d below = inl refl
at_member (y ∷ xs) (suc i) d below = inr (at_member xs i d (omega arith))

-- within the list the default does not matter
pub any_default : {A : Type 0} → (xs : List A) (k : ℕ) (d e : A) → k < length xs → slice_index_or xs k d ≡ slice_index_or xs k e
any_default [] k d e below = absurd (omega arith)
any_default (x ∷ xs) zero d e below = refl
any_default (x ∷ xs) (suc k) d e below = any_default xs k d e (omega arith)

-- a member of two lists joined is one of the first or of the second
pub member_append : (x : ℕ) (xs ys : List ℕ) → Member x (xs ++ ys) ↔ (Member x xs ⊎ Member x ys)
member_append x xs ys = (which xs, join xs)
  where
    which : (xs : List ℕ) → Member x (xs ++ ys) → Member x xs ⊎ Member x ys
    which [] m = inr m
    which (y ∷ xs) (inl e) = inl (inl e)
    which (y ∷ xs) (inr m) = elim (which xs m) [ inl k ↦ inl (inr k) | inr k ↦ inr k ]

    join : (xs : List ℕ) → Member x xs ⊎ Member x ys → Member x (xs ++ ys)
    join [] (inl m) = elim m [ ]
    join [] (inr m) = m
    join (y ∷ xs) (inl (inl e)) = inl e
    join (y ∷ xs) (inl (inr m)) = inr (join xs (inl m))
    join (y ∷ xs) (inr m) = inr (join xs (inr m))

-- a member of a list with one more at its end
pub member_push : (x : ℕ) (xs : List ℕ) (y : ℕ) → Member x (xs ++ y ∷ []) ↔ (Member x xs ⊎ (x ≡ y))
member_push x xs y = (
  (λ m. elim ((member_append x xs (y ∷ [])).0 m) [ inl k ↦ inl k | inr k ↦ elim k [ inl e ↦ inr e | inr none ↦ absurd none ] ]),
  (λ k. (member_append x xs (y ∷ [])).1 (elim k [ inl m ↦ inl m | inr e ↦ inr (inl e) ])),
)

-- the first i + 1 are the first i and the next
pub take_next : {A : Type 0} → (xs : List A) (i : ℕ) (d : A) → i < length xs → take (i + 1) xs ≡ take i xs ++ slice_index_or xs i d ∷ []
take_next xs i d below = rw (add-one i) (take-suc xs i d below)

-- a member of the first i + 1 is one of the first i, or the next
pub member_take : (x : ℕ) (xs : List ℕ) (i d : ℕ) → i < length xs
    → Member x (take (i + 1) xs) ↔ (Member x (take i xs) ⊎ (x ≡ slice_index_or xs i d))
member_take x xs i d below = rw (take_next xs i d below) (member_push x (take i xs) (slice_index_or xs i d))

-- different numbers and one more that is not among them
pub distinct_push : (xs : List ℕ) (u : ℕ) → Distinct xs → (Member u xs → ⊥) → Distinct (xs ++ u ∷ [])
distinct_push [] u d new = ((λ m. m), tt)
distinct_push (x ∷ xs) u d new = (
  (λ m. elim ((member_push x xs u).0 m) [ inl k ↦ d.0 k | inr e ↦ new (inl (sym e)) ]),
  distinct_push xs u d.1 (λ m. new (inr m)),
)

-- no two indices of a list of different numbers have one number
pub distinct_apart : (xs : List ℕ) → Distinct xs → (i j : ℕ) → i < j → j < length xs → slice_index xs i ≢ slice_index xs j
distinct_apart [] d i j rises below same = omega arith
distinct_apart (x ∷ xs) d i zero rises below same = omega arith
distinct_apart (x ∷ xs) d zero (suc j) rises below same = d.0 (subst (λ y. Member y xs) (sym same) (at_member xs j 0 (omega arith)))
distinct_apart (x ∷ xs) d (suc i) (suc j) rises below same = distinct_apart xs d.1 i j (omega arith) (omega arith) same
