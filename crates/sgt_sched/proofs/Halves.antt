-- The search by halves: the index of a transaction among the live ones, whose numbers rise.
use Rattle.std.proofs.Common.{◌≡◌, ℕ, zero, suc, ◌<◌, ◌≤◌, ◌+◌, arith, not, cond, nat_eq, List, [], ◌∷◌, length, Some, None, Result, Ok, Err, refl, sym, ap, ◌∙◌, inl, inr, get_or, position}
use Rattle.std.specs.List.{position_or_len}
use Rattle.std.specs.List.Sorted.{IsSearchInRange, IsBinarySearchResult, IsNonDecreasingBy}
use Rattle.std.specs.Ordering.{nat_cmp, ordering_index}
use Rattle.std.specs.Result.{result_ok}
use Rattle.std.proofs.lemmas.Cmp.{ranked}
use Rattle.std.proofs.lemmas.Bool.{false_from_ne_true, eq-eqb, eqb-true, lt-ltb, le-ltb, cases_lt}
use Rattle.std.proofs.lemmas.Bool.Decides.{nat_tests}
use Rattle.sgt_model.specs.Paths.{Member, Rising}
use Rattle.sgt_model.proofs.OneReply.{rising_below, rising_rest}
use Rattle.sgt_sched.specs.LiveProgress.{Progress}
use Rattle.sgt_sched.specs.LiveList.{numbers, has_number}

-- the number at an index is one of them
number_at : (live : List (ℕ × Progress)) (i : ℕ) (d : ℕ × Progress) → i < length live → Member (get_or live i d).0 (numbers live)
number_at [] i d below = absurd (omega (arith, below))
number_at (q ∷ rest) zero d below = inl refl
number_at (q ∷ rest) (suc i) d below = inr (number_at rest i d (omega (arith, below)))

-- a later one is no smaller
numbers_rise : (live : List (ℕ × Progress)) → Rising (numbers live) → (i j : ℕ) (d : ℕ × Progress) → i ≤ j → j < length live
    → (get_or live i d).0 ≤ (get_or live j d).0
numbers_rise [] r i j d le below = absurd (omega (arith, below))
numbers_rise (q ∷ rest) r zero zero d le below = omega arith
numbers_rise (q ∷ rest) r zero (suc j) d le below =
    let less : q.0 < (get_or rest j d).0 = rising_below q.0 (numbers rest) r (get_or rest j d).0
    (number_at rest j d (omega (arith, below))) in
    omega (arith, less)
numbers_rise (q ∷ rest) r (suc i) zero d le below = absurd (omega (arith, le))
numbers_rise (q ∷ rest) r (suc i) (suc j) d le below =
    numbers_rise rest (rising_rest q.0 (numbers rest) r) i j d (omega (arith, le)) (omega (arith, below))

module _ (t : ℕ) where
  -- whether the first one is t
  first_is : (q : ℕ × Progress) (n : ℕ) → q.0 ≡ t → cond (not (has_number t q)) (1 + n) 0 ≡ 0
  first_is q n e = ap (λ b. cond (not b) (1 + n) 0) (eq-eqb q.0 t e)

  first_is_not : (q : ℕ × Progress) (n : ℕ) → (q.0 ≡ t → ⊥) → cond (not (has_number t q)) (1 + n) 0 ≡ 1 + n
  first_is_not q n other = ap (λ b. cond (not b) (1 + n) 0) (false_from_ne_true (nat_eq q.0 t) (λ e. other (eqb-true q.0 t e)))

  -- where t stands is its index
  stands : (live : List (ℕ × Progress)) (i : ℕ) (d : ℕ × Progress) → Rising (numbers live) → i < length live
      → (get_or live i d).0 ≡ t → position_or_len (has_number t) live ≡ i
  stands [] i d r below at = absurd (omega (arith, below))
  stands (q ∷ rest) zero d r below at = first_is q (position_or_len (has_number t) rest) at
  stands (q ∷ rest) (suc i) d r below at =
      let same = stands rest i d (rising_rest q.0 (numbers rest) r) (omega (arith, below)) at in
      let less : q.0 < (get_or rest i d).0 =
      rising_below q.0 (numbers rest) r (get_or rest i d).0 (number_at rest i d (omega (arith, below))) in
      first_is_not q (position_or_len (has_number t) rest) (λ e. absurd (omega (arith, less, at, e))) ∙ omega (arith, same)

  -- where it stands nowhere, it has none
  nowhere : (live : List (ℕ × Progress)) → ((i : ℕ) (d : ℕ × Progress) → i < length live → (get_or live i d).0 ≡ t → ⊥)
      → position_or_len (has_number t) live ≡ length live
  nowhere [] none = refl
  nowhere (q ∷ rest) none =
      let all = nowhere rest (λ i d below at. none (suc i) d (omega (arith, below)) at) in
      first_is_not q (position_or_len (has_number t) rest) (λ e. none 0 q (omega arith) e) ∙ omega (arith, all)

  -- where it stands, it is found
  pub index_seen : (live : List (ℕ × Progress)) (i : ℕ) (d : ℕ × Progress) → Rising (numbers live) → i < length live
      → (get_or live i d).0 ≡ t → position (has_number t) live ≡ Some i
  index_seen live i d r below at =
      let n = stands live i d r below at in
      ap (λ b. cond b (Some (position_or_len (has_number t) live)) None)
      (lt-ltb (position_or_len (has_number t) live) (length live) (omega (arith, n, below))) ∙ ap Some n

  -- the comparisons with t rise along the list, as the search asks
  comparisons_rise : (live : List (ℕ × Progress)) → Rising (numbers live)
      → IsNonDecreasingBy (λ (y : ℕ × Progress). ordering_index (nat_cmp y.0 t)) live
  comparisons_rise live r i j d le below = higher (get_or live i d).0 (get_or live j d).0 (numbers_rise live r i j d le below)
    where
      higher : (a b : ℕ) → a ≤ b → ordering_index (nat_cmp a t) ≤ ordering_index (nat_cmp b t)
      higher a b le = grind (arith, nat_tests)

  -- what the search finds is the index
  pub index_searched : (live : List (ℕ × Progress)) (r : Result ℕ ℕ) → Rising (numbers live) → IsSearchInRange r (length live)
      → IsBinarySearchResult (λ (y : ℕ × Progress). nat_cmp y.0 t) live r → result_ok r ≡ position (has_number t) live
  index_searched [] (Ok i) rising below found = absurd (omega (arith, below))
  index_searched (q ∷ rest) (Ok i) rising below found =
      let n = stands (q ∷ rest) i q rising below (ranked _ t _ (sym (found q))) in
      sym (ap (λ b. cond b (Some (position_or_len (has_number t) (q ∷ rest))) None)
      (lt-ltb (position_or_len (has_number t) (q ∷ rest)) (length (q ∷ rest)) (omega (arith, n, below))) ∙ ap Some n)
  index_searched live (Err i) rising within parted =
      let point = parted (comparisons_rise live rising) in
      let n = nowhere live (λ k d below at. elim (cases_lt k i) [
        | inl before ↦
            let less : (get_or live k d).0 < t = ranked _ t _ (sym (point.0 k d (omega arith) before)) in
            absurd (omega (arith, less, at))
        | inr after ↦
            let more : t < (get_or live k d).0 = ranked _ t _ (sym (point.1 k d after below)) in
            absurd (omega (arith, more, at))
      ]) in
      sym (ap (λ b. cond b (Some (position_or_len (has_number t) live)) None)
      (le-ltb (position_or_len (has_number t) live) (length live) (omega (arith, n))))
