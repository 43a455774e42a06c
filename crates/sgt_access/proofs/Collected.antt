-- The transactions at the places of a set, taken out of it one after another.
use Rattle.std.proofs.Common.{◌≡◌, ℕ, ◌<◌, ◌≤◌, ◌^◌, ◌⊎◌, ◌↔◌, Bool, true, false, ◌&&◌, not, nat_eq, List, [], length, slice_index, get_or, arith, refl, sym, ap, subst, ◌∙◌, inl, inr}
use Rattle.std.proofs.lemmas.Bool.{cases_Bool, cases_lt, cases_eq, eqb-true, eq-eqb, and_parts, and_cases, not-true, not-false, false_from_ne_true, both_ways}
use Rattle.sgt_model.specs.Paths.{Member, Rising}
use Rattle.sgt_cycle.specs.Indices.{is_set}
use Rattle.sgt_cycle.proofs.Bits.{none_above}
use Rattle.std.proofs.lemmas.List.{get_or_default}
use Rattle.sgt_access.proofs.RisingLists.{member_at, capacity_among}

-- found are the transactions at the places of the set that are not left
pub record Collected (set : ℕ) (tids : List ℕ) (left : ℕ) (found : List ℕ) : Type 0 where
  pub within : (i : ℕ) → is_set left i ≡ true → is_set set i ≡ true
  pub members : (u : ℕ) → Member u found ↔ ((i : ℕ) × (is_set set i ≡ true) × (is_set left i ≡ false) × (slice_index tids i ≡ u))
  pub rising : Rising found

module _ (set : ℕ) (tids : List ℕ) where
  pub collected_none : Collected set tids set []
  collected_none = record {
    within = λ i h. h;
    members = λ u. (λ m. absurd m, λ h. let (i, set_there, gone, at) = h in absurd (both_ways (is_set set i) gone set_there));
    rising = tt;
  }

  pub collected_more : (left p left' only t : ℕ) (found found' : List ℕ) → Collected set tids left found → is_set left p ≡ true
      → ((i : ℕ) → is_set only i ≡ nat_eq i p) → ((i : ℕ) → is_set left' i ≡ (is_set left i && not (is_set only i)))
      → t ≡ slice_index tids p → ((u : ℕ) → Member u found' ↔ ((u ≡ t) ⊎ Member u found)) → Rising found'
      → Collected set tids left' found'
  collected_more left p left' only t found found' before there alone fewer is more rises = record {
    within = λ i h. before.within i (parts i h).0;
    members = λ u. (
      λ m. elim ((more u).0 m) [
        | inl now ↦ (p, before.within p there, false_from_ne_true (is_set left' p) (λ h. both_ways (is_set only p) (not-true (is_set only p) (parts p h).1) (alone p ∙ eq-eqb p p refl)), sym (now ∙ is))
        | inr old ↦ let (i, set_there, gone, at) = (before.members u).0 old in
            (i, set_there, false_from_ne_true (is_set left' i) (λ h. both_ways (is_set left i) gone (parts i h).0), at)
      ],
      λ h. let (i, set_there, gone, at) = h in
          elim (cases_Bool (is_set left i)) [
            | inl still ↦ (more u).1 (inl (sym at ∙ ap (slice_index tids) (eqb-true i p (sym (alone i)
                ∙ not-false (is_set only i) (second (is_set left i) (not (is_set only i)) still (sym (fewer i) ∙ gone)))) ∙ sym is))
            | inr no' ↦ (more u).1 (inr ((before.members u).1 (i, set_there, no', at)))
          ],
    );
    rising = rises;
  }
    where
      parts : (i : ℕ) → is_set left' i ≡ true → (is_set left i ≡ true) × (not (is_set only i) ≡ true)
      parts i h = and_parts (is_set left i) (not (is_set only i)) (sym (fewer i) ∙ h)

      second : (a b : Bool) → a ≡ true → (a && b) ≡ false → b ≡ false
      second a b t none = elim (and_cases a b none) [ inl f ↦ absurd (both_ways a f t) | inr f ↦ f ]

  -- the list has capacity for the next
  pub collected_capacity : (left p : ℕ) (found : List ℕ) → set < 2 ^ 32 → length tids ≡ 32 → Collected set tids left found
      → is_set left p ≡ true → (t : ℕ) → t ≡ slice_index tids p → (Member t found → ⊥) → length found < 32
  collected_capacity left p found fits size before there t is out = subst (λ n. length found < n) size
      (capacity_among tids found t before.rising
      (λ u m. let (i, set_there, gone, at) = (before.members u).0 m in member_at tids i u (short i set_there) at)
      (member_at tids p t (short p (before.within p there)) (sym is)) out)
    where
      short : (i : ℕ) → is_set set i ≡ true → i < length tids
      short i h = subst (λ n. i < n) (sym size) (elim (cases_lt i 32) [ inl low ↦ low | inr high ↦ absurd (both_ways (is_set set i) (none_above set i fits high) h) ])

  -- nothing is left: they are all
  pub collected_all : (left : ℕ) (found : List ℕ) → Collected set tids left found → ((i : ℕ) → is_set left i ≡ false)
      → (u : ℕ) → Member u found ↔ ((i : ℕ) × (is_set set i ≡ true) × (slice_index tids i ≡ u))
  collected_all left found before none u = (
    λ m. let (i, set_there, gone, at) = (before.members u).0 m in (i, set_there, at),
    λ h. let (i, set_there, at) = h in (before.members u).1 (i, set_there, none i, at),
  )

-- taking one out makes a set smaller
pub taken_less : (left left' p only : ℕ) → is_set left p ≡ true → ((i : ℕ) → is_set only i ≡ nat_eq i p)
    → ((i : ℕ) → is_set left' i ≡ (is_set left i && not (is_set only i))) → left' ≤ left → left' < left
taken_less left left' p only there alone fewer most = elim (cases_eq left' left) [
  | inl e ↦ absurd (both_ways (is_set only p) (not-true (is_set only p) (and_parts (is_set left p) (not (is_set only p))
      (sym (fewer p) ∙ ap (λ n. is_set n p) e ∙ there)).1) (alone p ∙ eq-eqb p p refl))
  | inr ne ↦ omega (arith, ne, most)
]

-- what is read at a place
pub read_at : (tids : List ℕ) (at p d : ℕ) → length tids ≡ 32 → at ≡ p → p < 32 → get_or tids at d ≡ slice_index tids p
read_at tids at p d size e low = sym (get_or_default tids at 0 d (omega (arith, size, e, low))) ∙ ap (λ i. slice_index tids i) e
