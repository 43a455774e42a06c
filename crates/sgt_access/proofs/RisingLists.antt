-- Rising lists of numbers: one more at its index, and how many there can be.
use Rattle.std.proofs.Common.{◌≡◌, ◌≢◌, ℕ, zero, suc, ◌+◌, ◌<◌, ◌≤◌, ◌⊎◌, ◌↔◌, List, [], ◌∷◌, ◌++◌, Result, Bool, true, Ok, Err, length, take, drop, get_or, slice_get, ◌-◌, Some, refl, sym, subst, inl, inr, arith, ◌∙◌, ap}
use Rattle.std.proofs.lemmas.List.{take-append-drop}
use Rattle.std.proofs.lemmas.Option.{same_Some}
use Rattle.std.proofs.lemmas.List.Sorted.{searched}
use Rattle.std.specs.List.{insert}
use Rattle.std.specs.List.Sorted.{IsBinarySearchResult}
use Rattle.std.specs.Ordering.{nat_cmp}
use Rattle.std.specs.Result.{MatchResult}
use Rattle.sgt_model.specs.Paths.{Member, Distinct, Rising, AtMost}

-- the members of two lists joined
member_joined : (xs ys : List ℕ) (u : ℕ) → Member u (xs ++ ys) ↔ (Member u xs ⊎ Member u ys)
member_joined [] ys u = (λ m. inr m, λ m. elim m [ inl none ↦ absurd none | inr later ↦ later ])
member_joined (x ∷ xs) ys u =
    let rest = member_joined xs ys u in (
      λ m. elim m [ inl here ↦ inl (inl here) | inr later ↦ elim (rest.0 later) [ inl a ↦ inl (inr a) | inr b ↦ inr b ] ],
      λ m. elim m [ inl a ↦ elim a [ inl here ↦ inl here | inr later ↦ inr (rest.1 (inl later)) ] | inr b ↦ inr (rest.1 (inr b)) ],
    )

-- the members of a list with one more
pub member_inserted : (xs : List ℕ) (i t u : ℕ) → Member u (insert xs i t) ↔ ((u ≡ t) ⊎ Member u xs)
member_inserted xs i t u =
    let parts = member_joined (take i xs) (drop i xs) u in
    let whole = member_joined (take i xs) (t ∷ drop i xs) u in
    let same = take-append-drop i xs in (
      λ m. elim (whole.0 m) [
        | inl front ↦ inr (subst (Member u) same (parts.1 (inl front)))
        | inr back ↦
            elim back [ inl here ↦ inl here | inr later ↦ inr (subst (Member u) same (parts.1 (inr later))) ]
      ],
      λ m. elim m [
        | inl here ↦ whole.1 (inr (inl here))
        | inr old ↦
            elim (parts.0 (subst (Member u) (sym same) old)) [ inl front ↦ whole.1 (inl front) | inr back ↦ whole.1 (inr (inr back)) ]
      ],
    )

-- a number at an index is a member
pub member_at : (xs : List ℕ) (i t : ℕ) → i < length xs → get_or xs i 0 ≡ t → Member t xs
member_at [] i t short e = omega arith
member_at (x ∷ xs) zero t short e = inl (sym e)
member_at (x ∷ xs) (suc i) t short e = inr (member_at xs i t (omega arith) e)

-- the first number of a rising list is its least
first_least : (x : ℕ) (xs : List ℕ) (j : ℕ) → Rising (x ∷ xs) → j < length (x ∷ xs) → x ≤ get_or (x ∷ xs) j 0
first_least x xs zero h short = omega arith
first_least x [] (suc j) h short = omega arith
first_least x (y ∷ xs) (suc j) h short = omega (arith, h.0, first_least y xs j h.1 (omega arith))

-- the numbers of a rising list do not decrease from index to index
by_index : (xs : List ℕ) → Rising xs → (i j : ℕ) → i ≤ j → j < length xs → get_or xs i 0 ≤ get_or xs j 0
by_index [] h i j le short = omega arith
by_index (x ∷ xs) h zero j le short = first_least x xs j h short
by_index (x ∷ xs) h (suc i) zero le short = omega arith
by_index (x ∷ []) h (suc i) (suc j) le short = omega arith
by_index (x ∷ y ∷ xs) h (suc i) (suc j) le short = by_index (y ∷ xs) h.1 i j (omega arith) (omega arith)

-- all numbers before an index are smaller than t, and all from it on are greater
pub record IsIndex (xs : List ℕ) (t i : ℕ) : Type 0 where
  pub within : i ≤ length xs
  pub before : (k : ℕ) → k < i → get_or xs k 0 < t
  pub after : (k : ℕ) → i ≤ k → k < length xs → t < get_or xs k 0

-- a number that has an index is no member
pub index_absent : (xs : List ℕ) (t i : ℕ) → IsIndex xs t i → Member t xs → ⊥
index_absent [] t i at m = m
index_absent (x ∷ xs) t zero at (inl e) = omega (arith, at.after 0 (omega arith) (omega arith))
index_absent (x ∷ xs) t (suc i) at (inl e) = omega (arith, at.before 0 (omega arith))
index_absent (x ∷ xs) t zero at (inr m) = index_absent xs t zero
    (record { within = omega arith; before = λ k lt. omega arith; after = λ k le lt. at.after (suc k) (omega arith) (omega arith) }) m
index_absent (x ∷ xs) t (suc i) at (inr m) = index_absent xs t i
    (record {
      within = let w = at.within in omega arith;
      before = λ k lt. at.before (suc k) (omega arith);
      after = λ k le lt. at.after
          (suc k) (omega arith) (omega arith);
    }) m

-- inserted at its index, it leaves the list rising
pub index_rises : (xs : List ℕ) (t i : ℕ) → Rising xs → IsIndex xs t i → Rising (insert xs i t)
index_rises [] t zero h at = tt
index_rises [] t (suc i) h at = tt
index_rises (x ∷ xs) t zero h at = (at.after 0 (omega arith) (omega arith), h)
index_rises (x ∷ []) t (suc zero) h at = (at.before 0 (omega arith), tt)
index_rises (x ∷ []) t (suc (suc i)) h at = let w = at.within in omega arith
index_rises (x ∷ y ∷ xs) t (suc zero) h at = (at.before 0 (omega arith), (at.after 1 (omega arith) (omega arith), h.1))
index_rises (x ∷ y ∷ xs) t (suc (suc i)) h at = (
  h.0,
  index_rises (y ∷ xs) t (suc i) h.1 (record {
    within = let w = at.within in
        omega arith;
    before = λ k lt. at.before (suc k) (omega arith);
    after = λ k le lt. at.after (suc k) (omega arith) (omega arith);
  }),
)

-- a binary search finds the number, or its index
pub search_finds : (xs ys : List ℕ) (t : ℕ) (r : Result ℕ ℕ) → ys ≡ xs → Rising xs → IsBinarySearchResult (λ y. nat_cmp y t) ys r
    → MatchResult r (λ i. Member t xs) (λ i. IsIndex xs t i)
search_finds xs ys t r same h is = go r (searched xs t r (subst (λ l. IsBinarySearchResult (λ y. nat_cmp y t) l r) same is) (by_index xs h))
  where
    go : (r : Result ℕ ℕ) → MatchResult r (λ i. (i < length xs) × (get_or xs i 0 ≡ t))
        (λ i. (i ≤ length xs) × ((k : ℕ) → k < i → get_or xs k 0 < t) × ((k : ℕ) → i ≤ k → k < length xs → t < get_or xs k 0))
        → MatchResult r (λ i. Member t xs) (λ i. IsIndex xs t i)
    go (Ok i) at = member_at xs i t at.0 at.1
    go (Err i) at = record { within = at.0; before = at.1; after = at.2 }

-- a number above all of a rising list goes to its end
pub rises_last : (xs : List ℕ) (t : ℕ) → Rising xs → ((u : ℕ) → Member u xs → u < t) → Rising (xs ++ t ∷ [])
rises_last [] t h above = tt
rises_last (x ∷ []) t h above = (above x (inl refl), tt)
rises_last (x ∷ y ∷ xs) t h above = (h.0, rises_last (y ∷ xs) t h.1 (λ u m. above u (inr m)))

pub member_last : (xs : List ℕ) (t u : ℕ) → Member u (xs ++ t ∷ []) ↔ ((u ≡ t) ⊎ Member u xs)
member_last xs t u =
    let whole = member_joined xs (t ∷ []) u in (
      λ m. elim (whole.0 m) [ inl front ↦ inr front | inr back ↦ elim back [ inl here ↦ inl here | inr none ↦ absurd none ] ],
      λ m. elim m [ inl here ↦ whole.1 (inr (inl here)) | inr old ↦ whole.1 (inl old) ],
    )

-- a number above the last of a rising list is above all of it
above_at : (xs : List ℕ) (i l t : ℕ) → Rising xs → i + 1 ≡ length xs → slice_get xs i ≡ Some l → l < t
    → (u : ℕ) → Member u xs → u < t
above_at [] i l t h long e lt u m = absurd m
above_at (x ∷ []) zero l t h long e lt u (inl same) = omega (arith, lt, same_Some x l e, same)
above_at (x ∷ []) zero l t h long e lt u (inr none) = absurd none
above_at (x ∷ []) (suc i) l t h long e lt u m = absurd (omega (arith, long))
above_at (x ∷ y ∷ xs) zero l t h long e lt u m = absurd (omega (arith, long))
above_at (x ∷ y ∷ xs) (suc i) l t h long e lt u (inl same) =
    omega (arith, h.0, same, above_at (y ∷ xs) i l t h.1 (omega (arith, long)) e lt y (inl refl))
above_at (x ∷ y ∷ xs) (suc i) l t h long e lt u (inr m) = above_at (y ∷ xs) i l t h.1 (omega (arith, long)) e lt u m

pub above_last : (xs : List ℕ) (l t : ℕ) → Rising xs → slice_get xs (length xs - 1) ≡ Some l → l < t
    → (u : ℕ) → Member u xs → u < t
above_last [] l t h e lt u m = absurd m
above_last (x ∷ xs) l t h e lt u m = above_at (x ∷ xs) (length xs) l t h (omega arith)
    (subst (λ n. slice_get (x ∷ xs) n ≡ Some l) (one_less (length xs)) e) lt u m
  where
    one_less : (n : ℕ) → suc n - 1 ≡ n
    one_less n = omega arith

-- a list without one of its members
removed : (x : ℕ) (ys : List ℕ) → Member x ys → (zs : List ℕ) × (length ys ≡ suc (length zs))
    × ((y : ℕ) → Member y ys → y ≢ x → Member y zs)
removed x [] m = absurd m
removed x (y ∷ ys) (inl e) = (ys, refl, λ z m other. elim m [ inl same ↦ absurd (other (same ∙ sym e)) | inr k ↦ k ])
removed x (y ∷ ys) (inr m) = let (zs, long, keep) = removed x ys m in
    (y ∷ zs, ap suc long, λ z k other. elim k [ inl same ↦ inl same | inr j ↦ inr (keep z j other) ])

-- different numbers that are all in another list are no more than it has
fits : (xs ys : List ℕ) → Distinct xs → ((t : ℕ) → Member t xs → Member t ys) → length xs ≤ length ys
fits [] ys d w = omega arith
fits (x ∷ xs) ys d w =
    let (zs, long, keep) = removed x ys (w x (inl refl)) in
    let rest : length xs ≤ length zs = fits xs zs d.1 (λ y m. keep y (w y (inr m)) (λ same. d.0 (subst (λ z. Member z xs) same m))) in
    omega arith

-- the numbers of a rising list are above the first, and different
rising_above : (x : ℕ) (xs : List ℕ) → Rising (x ∷ xs) → (t : ℕ) → Member t xs → x < t
rising_above x [] h t m = absurd m
rising_above x (y ∷ xs) h t (inl e) = subst (λ z. x < z) (sym e) h.0
rising_above x (y ∷ xs) h t (inr m) = omega (arith, h.0, rising_above y xs h.1 t m)

-- so none comes twice
rising_distinct : (xs : List ℕ) → Rising xs → Distinct xs
rising_distinct [] h = tt
rising_distinct (x ∷ []) h = ((λ m. m), tt)
rising_distinct (x ∷ y ∷ xs) h = ((λ m. let lt = rising_above x (y ∷ xs) h x m in omega arith), rising_distinct (y ∷ xs) h.1)

-- if at most N numbers pass a test, a rising list of numbers that pass it has fewer than N while another one passes it
-- too
pub capacity_left : (most : ℕ) (counts : ℕ → Bool) (xs : List ℕ) (t : ℕ) → AtMost most counts → Rising xs
    → ((u : ℕ) → Member u xs → counts u ≡ true) → counts t ≡ true → (Member t xs → ⊥) → length xs < most
capacity_left most counts xs t few h all also out =
    let whole : length (t ∷ xs) ≤ length few.among = fits (t ∷ xs) few.among (out, rising_distinct xs h)
    (λ u m. elim m [ inl e ↦ few.all u (subst (λ z. counts z ≡ true) (sym e) also) | inr m' ↦ few.all u (all u m') ]) in
    let enough = few.few in
    omega arith

-- different numbers that are all in a list, without one of it, are fewer than it has
pub capacity_among : (ys xs : List ℕ) (t : ℕ) → Rising xs → ((u : ℕ) → Member u xs → Member u ys) → Member t ys → (Member t xs → ⊥)
    → length xs < length ys
capacity_among ys xs t h all also out =
    let whole : length (t ∷ xs) ≤ length ys = fits (t ∷ xs) ys (out, rising_distinct xs h)
    (λ u m. elim m [ inl e ↦ subst (λ z. Member z ys) (sym e) also | inr m' ↦ all u m' ]) in
    omega arith
