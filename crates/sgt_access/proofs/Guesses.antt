-- The guess of each transaction with a place is right, unless its place is hidden, after each change of the places.
use Rattle.std.proofs.Common.{◌≡◌, ◌≢◌, ℕ, ◌%◌, ◌⊎◌, true, false, ◌||◌, ◌&&◌, not, nat_eq, List, [], length, slice_index, slice_set, arith, refl, sym, ap, subst, ◌∙◌, inl, inr}
use Rattle.std.proofs.lemmas.Bool.{cases_eq, eqb-true, eq-eqb, or_cases, or_left, or_right, and_parts, and_from, false_from_ne_true, both_ways}
use Rattle.std.proofs.lemmas.List.{get_or-set_same, get_or-set_other}
use Rattle.sgt_cycle.specs.Indices.{is_set}
use Rattle.sgt_access.specs.Places.{is_at, IsTaken, AreGuesses}
use Rattle.sgt_access.proofs.Marks.{at_parts, at_from, placed_apart, placed_there}

module _ (taken : ℕ) (tids : List ℕ) (hidden : ℕ) (guesses : List ℕ) (right : AreGuesses taken tids hidden guesses) where
  -- a transaction that is neither at its guess nor at a hidden place is at no place
  pub unguessed : (t set : ℕ) → ((i : ℕ) → is_set set i ≡ (is_set taken i && is_set hidden i))
      → is_at taken tids t (slice_index guesses (t % 128) % 32) ≡ false → ((i : ℕ) → is_at set tids t i ≡ false)
      → (i : ℕ) → is_at taken tids t i ≡ false
  unguessed t set are wrong none i = false_from_ne_true (is_at taken tids t i) (λ h.
      let parts = at_parts taken tids t i h in
      elim (right i parts.0) [
        | inl hides ↦ both_ways (is_at set tids t i) (none i)
            (at_from set tids t i (are i ∙ and_from (is_set taken i) (is_set hidden i) parts.0 hides) parts.1)
        | inr guess ↦ both_ways (is_at taken tids t (slice_index guesses (t % 128) % 32)) wrong
            (subst (λ x. is_at taken tids t x ≡ true)
            (sym (ap (λ u. slice_index guesses (u % 128) % 32) (sym parts.1) ∙ guess)) h)
      ])

  -- a transaction is placed, and the guess that was there hides its place
  module _ (t p guess set hidden' taken' : ℕ) (tids' guesses' : List ℕ) (new : IsTaken taken tids t p taken' tids')
      (size : length tids ≡ 32) (many : length guesses ≡ 128) (is : guess ≡ slice_index guesses (t % 128) % 32)
      (one : (i : ℕ) → is_set set i ≡ (is_set taken i && nat_eq i guess && nat_eq (slice_index tids guess % 128) (t % 128)))
      (more : (i : ℕ) → is_set hidden' i ≡ (is_set hidden i || is_set set i)) (there : guesses' ≡ slice_set guesses (t % 128) p) where
    placed_right : slice_index guesses' (slice_index tids' p % 128) % 32 ≡ p
    placed_right =
        ap (λ u. slice_index guesses' (u % 128) % 32) (placed_there taken tids (λ a. true) [] 0 t p taken' tids' size new refl)
        ∙ ap (λ l. slice_index l (t % 128) % 32) there
        ∙ ap (λ n. n % 32) (get_or-set_same guesses (t % 128) p 0 (omega (arith, many)))
        ∙ (let low = new.low in omega (arith, low))

    old_right : (i : ℕ) → i ≢ p → is_set taken i ≡ true → slice_index guesses (slice_index tids i % 128) % 32 ≡ i
        → (is_set hidden' i ≡ true) ⊎ (slice_index guesses' (slice_index tids' i % 128) % 32 ≡ i)
    old_right i other old was =
        let same : slice_index tids' i ≡ slice_index tids i = placed_apart taken tids (λ a. true) [] 0 t p taken' tids' size new refl i other in
        elim (cases_eq (slice_index tids i % 128) (t % 128)) [
          | inl meets ↦
              let here : i ≡ guess = sym was ∙ ap (λ n. slice_index guesses n % 32) meets ∙ sym is in
              inl (more i ∙ or_right (is_set hidden i) (is_set set i) (one i
              ∙ and_from (is_set taken i && nat_eq i guess) (nat_eq (slice_index tids guess % 128) (t % 128))
              (and_from (is_set taken i) (nat_eq i guess) old (eq-eqb i guess here))
              (eq-eqb (slice_index tids guess % 128) (t % 128) (subst (λ x. slice_index tids x % 128 ≡ t % 128) here meets))))
          | inr apart ↦ inr (ap (λ u. slice_index guesses' (u % 128) % 32) same
              ∙ ap (λ l. slice_index l (slice_index tids i % 128) % 32) there
              ∙ ap (λ n. n % 32) (get_or-set_other guesses (t % 128) (slice_index tids i % 128) p 0 apart) ∙ was)
        ]

    pub guesses_taken : AreGuesses taken' tids' hidden' guesses'
    guesses_taken i set_there = elim (cases_eq i p) [
      | inl e ↦ inr (subst (λ x. slice_index guesses' (slice_index tids' x % 128) % 32 ≡ x) (sym e) placed_right)
      | inr other ↦ elim (or_cases (is_set taken i) (nat_eq i p) (sym (new.more i) ∙ set_there)) [
        | inl old ↦ elim (right i old) [
          | inl hides ↦ inl (more i ∙ or_left (is_set hidden i) (is_set set i) hides)
          | inr was ↦ old_right i other old was
        ]
        | inr at ↦ absurd (other (eqb-true i p at))
      ]
    ]

  -- places are freed
  pub guesses_freed : (places taken' hidden' : ℕ) → ((i : ℕ) → is_set taken' i ≡ (is_set taken i && not (is_set places i)))
      → ((i : ℕ) → is_set hidden' i ≡ (is_set hidden i && not (is_set places i))) → AreGuesses taken' tids hidden' guesses
  guesses_freed places taken' hidden' fewer also i there =
      let parts = and_parts (is_set taken i) (not (is_set places i)) (sym (fewer i) ∙ there) in
      elim (right i parts.0) [
        | inl hides ↦ inl (also i ∙ and_from (is_set hidden i) (not (is_set places i)) hides parts.1)
        | inr guess ↦ inr guess
      ]
