-- A set has the places of the transactions with an access that passes a test, after each change of the accesses and the places.
use Rattle.std.proofs.Common.{◌≡◌, ◌≢◌, ℕ, ◌+◌, ◌<◌, ◌⊎◌, Bool, true, false, ◌&&◌, not, nat_eq, count_by, List, [], ◌∷◌, ◌++◌, length, slice_index, arith, refl, sym, ap, subst, ◌∙◌, inl, inr}
use Rattle.std.specs.List.{list_any}
use Rattle.std.proofs.lemmas.Bool.{true≢false, cases_eq, eqb-true, eq-eqb, ltb-true, lt-ltb, or_cases, or_left, or_right, and_parts, and_from, not-true, not_from_false, false_from_ne_true, both_ways}
use Rattle.std.proofs.lemmas.List.Folds.{list_any-append}
use Rattle.std.proofs.lemmas.List.{get_or-set_same, get_or-set_other}
use Rattle.sgt_model.specs.AccessList.{ListedAccess, is_listed}
use Rattle.sgt_cycle.specs.Indices.{is_set}
use Rattle.sgt_access.specs.Places.{is_at, IsTaken}
use Rattle.sgt_access.specs.Masks.{IsOneLess, HasAt, IsMask, IsMaskBut}
use Rattle.sgt_access.proofs.Counts.{bit, any_counted}

-- an item that passes a test passes one of two others
pub any_either : {X : Type 0} (p q r : X → Bool) → ((x : X) → p x ≡ true → (q x ≡ true) ⊎ (r x ≡ true)) → (xs : List X)
    → list_any p xs ≡ true → (list_any q xs ≡ true) ⊎ (list_any r xs ≡ true)
any_either p q r split [] h = absurd (true≢false (sym h))
any_either p q r split (x ∷ xs) h = elim (or_cases (p x) (list_any p xs) h) [
  | inl now ↦ elim (split x now) [
    | inl a ↦ inl (or_left (q x) (list_any q xs) a)
    | inr b ↦ inr (or_left (r x) (list_any r xs) b)
  ]
  | inr later ↦ elim (any_either p q r split xs later) [
    | inl a ↦ inl (or_right (q x) (list_any q xs) a)
    | inr b ↦ inr (or_right (r x) (list_any r xs) b)
  ]
]

pub any_implied : {X : Type 0} (p q : X → Bool) → ((x : X) → p x ≡ true → q x ≡ true) → (xs : List X) → list_any p xs ≡ true
    → list_any q xs ≡ true
any_implied p q h xs some = elim (any_either p q q (λ x t. inl (h x t)) xs some) [ inl a ↦ a | inr b ↦ b ]

-- an access that passes a test belongs to some transaction
pub any_owner : (q : ListedAccess → Bool) (xs : List ListedAccess) → list_any q xs ≡ true
    → (u : ℕ) × (list_any (λ (a : ListedAccess). nat_eq a.by u && q a) xs ≡ true)
any_owner q [] h = absurd (true≢false (sym h))
any_owner q (x ∷ xs) h = elim (or_cases (q x) (list_any q xs) h) [
  | inl now ↦ (
    x.by,
    or_left (nat_eq x.by x.by && q x) (list_any (λ (a : ListedAccess). nat_eq a.by x.by && q a) xs)
        (and_from (nat_eq x.by x.by) (q x) (eq-eqb x.by x.by refl) now),
  )
  | inr later ↦
      let (u, some) = any_owner q xs later in
      (u, or_right (nat_eq x.by u && q x) (list_any (λ (a : ListedAccess). nat_eq a.by u && q a) xs) some)
]

module _ (p : ListedAccess → Bool) (xs : List ListedAccess) (a : ListedAccess) where
  -- one access more
  pub any_before : list_any p xs ≡ true → list_any p (xs ++ a ∷ []) ≡ true
  any_before h = list_any-append p xs (a ∷ []) ∙ or_left (list_any p xs) (list_any p (a ∷ [])) h

  pub any_now : p a ≡ true → list_any p (xs ++ a ∷ []) ≡ true
  any_now h = list_any-append p xs (a ∷ []) ∙ or_right (list_any p xs) (list_any p (a ∷ [])) (or_left (p a) false h)

  pub any_cases : list_any p (xs ++ a ∷ []) ≡ true → (list_any p xs ≡ true) ⊎ (p a ≡ true)
  any_cases h = elim (or_cases (list_any p xs) (list_any p (a ∷ [])) (sym (list_any-append p xs (a ∷ [])) ∙ h)) [
    | inl old ↦ inl old
    | inr new ↦ elim (or_cases (p a) false new) [ inl y ↦ inr y | inr n ↦ absurd (true≢false (sym n)) ]
  ]

  -- one access less
  module _ (rest : List ListedAccess) (less : IsOneLess a xs rest) where
    pub any_fewer : list_any p rest ≡ true → list_any p xs ≡ true
    any_fewer h =
        let some : 0 < count_by p rest = ltb-true 0 (count_by p rest) (sym (any_counted p rest) ∙ h) in
        let sum = less p in
        any_counted p xs ∙ lt-ltb 0 (count_by p xs) (omega (arith, some, sum))

    pub any_left : p a ≡ false → list_any p xs ≡ true → list_any p rest ≡ true
    any_left other h =
        let some : 0 < count_by p xs = ltb-true 0 (count_by p xs) (sym (any_counted p xs) ∙ h) in
        let sum : count_by p rest + 0 ≡ count_by p xs = ap (λ b. count_by p rest + bit b) (sym other) ∙ less p in
        any_counted p rest ∙ lt-ltb 0 (count_by p rest) (omega (arith, some, sum))

module _ (taken : ℕ) (tids : List ℕ) where
  -- who is at a place
  pub at_parts : (t i : ℕ) → is_at taken tids t i ≡ true → (is_set taken i ≡ true) × (slice_index tids i ≡ t)
  at_parts t i h =
      let parts = and_parts (is_set taken i) (nat_eq (slice_index tids i) t) h in
      (parts.0, eqb-true (slice_index tids i) t parts.1)

  pub at_from : (t i : ℕ) → is_set taken i ≡ true → slice_index tids i ≡ t → is_at taken tids t i ≡ true
  at_from t i set is = and_from (is_set taken i) (nat_eq (slice_index tids i) t) set (eq-eqb (slice_index tids i) t is)

  module _ (test : ListedAccess → Bool) where
    abbrev of_at : ℕ → ListedAccess → Bool
    of_at i a = nat_eq a.by (slice_index tids i) && test a

    -- the transaction of an access that passes the test is at a place: so it has one there
    pub has_from : (accesses : List ListedAccess) (u i : ℕ) → list_any (λ (a : ListedAccess). nat_eq a.by u && test a) accesses ≡ true
        → is_at taken tids u i ≡ true → HasAt taken tids accesses test i
    has_from accesses u i some at =
        let parts = at_parts u i at in
        (parts.0, subst (λ v. list_any (λ (a : ListedAccess). nat_eq a.by v && test a) accesses ≡ true) (sym parts.1) some)

    -- one access more
    module _ (accesses : List ListedAccess) (a : ListedAccess) (p set set' : ℕ)
        (apart : (i j t : ℕ) → is_at taken tids t i ≡ true → is_at taken tids t j ≡ true → i ≡ j)
        (at : is_at taken tids a.by p ≡ true)
        (cases : (i : ℕ) → is_set set' i ≡ true → (is_set set i ≡ true) ⊎ ((test a ≡ true) × (i ≡ p)))
        (kept : (i : ℕ) → is_set set i ≡ true → is_set set' i ≡ true)
        (added : test a ≡ true → is_set set' p ≡ true)
        (mask : IsMask taken tids accesses test set) where
      pub mask_noted : IsMask taken tids (accesses ++ a ∷ []) test set'
      mask_noted i = (there, back)
        where
          there : is_set set' i ≡ true → HasAt taken tids (accesses ++ a ∷ []) test i
          there h = elim (cases i h) [
            | inl old ↦ let has = (mask i).0 old in (has.0, any_before (of_at i) accesses a has.1)
            | inr new ↦
                let parts = at_parts a.by i (subst (λ x. is_at taken tids a.by x ≡ true) (sym new.1) at) in
                (parts.0, any_now (of_at i) accesses a (and_from (nat_eq a.by (slice_index tids i)) (test a) (eq-eqb a.by (slice_index tids i) (sym parts.1)) new.0))
          ]

          back : HasAt taken tids (accesses ++ a ∷ []) test i → is_set set' i ≡ true
          back has = elim (any_cases (of_at i) accesses a has.1) [
            | inl old ↦ kept i ((mask i).1 (has.0, old))
            | inr new ↦
                let parts = and_parts (nat_eq a.by (slice_index tids i)) (test a) new in
                let here = at_from a.by i has.0 (sym (eqb-true a.by (slice_index tids i) parts.0)) in
                subst (λ x. is_set set' x ≡ true) (sym (apart i p a.by here at)) (added parts.1)
          ]

    -- a place more, of a transaction without an access
    module _ (accesses : List ListedAccess) (set t p taken' : ℕ) (tids' : List ℕ) (size : length tids ≡ 32)
        (new : IsTaken taken tids t p taken' tids') (none : is_listed accesses t ≡ false) where
      pub placed_apart : (i : ℕ) → i ≢ p → slice_index tids' i ≡ slice_index tids i
      placed_apart i other = ap (λ l. slice_index l i) new.there ∙ get_or-set_other tids p i t 0 other

      pub placed_there : slice_index tids' p ≡ t
      placed_there = ap (λ l. slice_index l p) new.there ∙ get_or-set_same tids p t 0 (subst (λ n. p < n) (sym size) new.low)

      pub mask_placed : IsMask taken tids accesses test set → IsMask taken' tids' accesses test set
      mask_placed mask i = elim (cases_eq i p) [
        | inl e ↦ (
          λ h. absurd (both_ways (is_set taken p) new.free (subst (λ x. is_set taken x ≡ true) e ((mask i).0 h).0)),
          λ has. absurd (both_ways (is_listed accesses t) none (any_implied _ (λ (a : ListedAccess). nat_eq a.by t)
              (λ a h. subst (λ u. nat_eq a.by u ≡ true) (ap (slice_index tids') e ∙ placed_there) (and_parts (nat_eq a.by (slice_index tids' i)) (test a) h).0)
              accesses has.1)),
        )
        | inr other ↦
            let same : slice_index tids' i ≡ slice_index tids i = placed_apart i other in (
              λ h. let has = (mask i).0 h in (
                new.more i ∙ or_left (is_set taken i) (nat_eq i p) has.0,
                subst (λ u. list_any (λ (a : ListedAccess). nat_eq a.by u && test a) accesses ≡ true) (sym same) has.1,
              ),
              λ has. (mask i).1 (
                elim (or_cases (is_set taken i) (nat_eq i p) (sym (new.more i) ∙ has.0)) [
                  | inl old ↦ old
                  | inr at ↦ absurd (other (eqb-true i p at))
                ],
                subst (λ u. list_any (λ (a : ListedAccess). nat_eq a.by u && test a) accesses ≡ true) same has.1,
              ),
            )
      ]

    -- the accesses of a transaction are removed
    pub mask_leaves : (accesses : List ListedAccess) (t set : ℕ) → IsMask taken tids accesses test set → IsMaskBut taken tids t accesses test set
    mask_leaves accesses t set mask = record { sound = λ i h. (mask i).0 h; whole = λ i apart has. (mask i).1 has }

    pub mask_removed : (accesses rest : List ListedAccess) (a : ListedAccess) (t set set' : ℕ) → a.by ≡ t → IsOneLess a accesses rest
        → ((i : ℕ) → is_set set' i ≡ true → (is_set set i ≡ true) × (test a ≡ true → is_at taken tids t i ≡ false))
        → ((i : ℕ) → is_set set i ≡ true → is_at taken tids t i ≡ false → is_set set' i ≡ true)
        → IsMaskBut taken tids t accesses test set → IsMaskBut taken tids t rest test set'
    mask_removed accesses rest a t set set' by less goes stays mask = record {
      sound = λ i h.
          let has = mask.sound i (goes i h).0 in (
            has.0,
            any_left (of_at i) accesses a rest less (false_from_ne_true (of_at i a) (λ passes.
                let parts = and_parts (nat_eq a.by (slice_index tids i)) (test a) passes in
                both_ways (is_at taken tids t i) ((goes i h).1 parts.1)
                (at_from t i has.0 (sym (eqb-true a.by (slice_index tids i) parts.0) ∙ by)))) has.1,
          );
      whole = λ i apart has. stays i (mask.whole i apart (has.0, any_fewer (of_at i) accesses a rest less has.1)) apart;
    }

    pub mask_left : (accesses : List ListedAccess) (t set taken' : ℕ) → is_listed accesses t ≡ false
        → ((i : ℕ) → is_set taken' i ≡ (is_set taken i && not (is_at taken tids t i)))
        → IsMaskBut taken tids t accesses test set → IsMask taken' tids accesses test set
    mask_left accesses t set taken' none fewer mask i = (
      λ h. let has = mask.sound i h in (
        fewer i ∙ and_from (is_set taken i) (not (is_at taken tids t i)) has.0 (not_from_false (is_at taken tids t i) (apart has)),
        has.1,
      ),
      λ has.
          let parts = and_parts (is_set taken i) (not (is_at taken tids t i)) (sym (fewer i) ∙ has.0) in
          mask.whole i (not-true (is_at taken tids t i) parts.1) (parts.0, has.1),
    )
      where
        apart : HasAt taken tids accesses test i → is_at taken tids t i ≡ false
        apart has = false_from_ne_true (is_at taken tids t i) (λ at. both_ways (is_listed accesses t) none
            (any_implied (of_at i) (λ (a : ListedAccess). nat_eq a.by t)
            (λ a h. subst (λ u. nat_eq a.by u ≡ true) (at_parts t i at).1 (and_parts (nat_eq a.by (slice_index tids i)) (test a) h).0)
            accesses has.1))
