-- A spot knows the places of its readers and writers, and its key, after each change.
use Rattle.std.proofs.Common.{◌≡◌, ℕ, ◌⊎◌, Bool, true, false, ◌||◌, ◌&&◌, not, nat_eq, List, [], ◌∷◌, ◌++◌, length, refl, sym, ap, subst, ◌∙◌, inl, inr}
use Rattle.std.specs.List.{list_any}
use Rattle.std.proofs.lemmas.Bool.{cases_Bool, eqb-true, eq-eqb, or_cases, or_left, or_right, and_parts, and_from, not-true, not_from_false, false_from_ne_true, both_ways}
use Rattle.std.proofs.lemmas.Bool.Decides.{Decides-int_eq}
use Rattle.std.specs.Ordering.{int_eq}
use Rattle.sgt_model.specs.declared.kind.Kind.{Kind}
use Rattle.sgt_model.specs.Contents.{Key, key_eq}
use Rattle.sgt_model.specs.Accesses.{is_store}
use Rattle.sgt_model.specs.AccessList.{ListedAccess, is_listed}
use Rattle.sgt_cycle.specs.Indices.{is_set}
use Rattle.sgt_cycle.proofs.Bits.{none_in}
use Rattle.sgt_access.specs.Places.{is_at, IsTaken}
use Rattle.sgt_access.specs.declared.spot.Spot.{Spot}
use Rattle.sgt_access.specs.Masks.{spot_at, reads_at, writes_at, has_other_key, IsOneLess, IsSpotOf, ArePlaces, IsSpotBut}
use Rattle.sgt_access.proofs.Marks.{any_implied, any_either, any_owner, any_cases, any_fewer, has_from, mask_noted, mask_placed, mask_leaves, mask_removed, mask_left}

pub equal_keys : (a b : Key) → a ≡ b → key_eq a b ≡ true
equal_keys a b e = and_from (nat_eq a.0 b.0) (int_eq a.1 b.1) (eq-eqb a.0 b.0 (ap (λ (k : Key). k.0) e))
    ((Decides-int_eq a.1 b.1).1 (ap (λ (k : Key). k.1) e))

pub zero_none : (n i : ℕ) → n ≡ 0 → is_set n i ≡ true → ⊥
zero_none n i e h = both_ways (is_set 0 i) (none_in i) (subst (λ x. is_set x i ≡ true) e h)

-- what adding an access does to a spot
pub record IsRaised (old new : Spot) (places : ℕ) (key : Key) (kind : Kind) : Type 0 where
  pub readers : (i : ℕ) → is_set new.readers i ≡ (is_set old.readers i || (not (is_store kind) && is_set places i))
  pub writers : (i : ℕ) → is_set new.writers i ≡ (is_set old.writers i || (is_store kind && is_set places i))
  pub one_key : new.is_mixed ≡ false → (new.key ≡ key)
      × (((old.readers ≡ 0) × (old.writers ≡ 0)) ⊎ ((old.is_mixed ≡ false) × (old.key ≡ key)))

-- what removing places does to it
pub record IsLowered (old new : Spot) (places : ℕ) : Type 0 where
  pub readers : (i : ℕ) → is_set new.readers i ≡ (is_set old.readers i && not (is_set places i))
  pub writers : (i : ℕ) → is_set new.writers i ≡ (is_set old.writers i && not (is_set places i))
  pub key : new.key ≡ old.key
  pub mixed : new.is_mixed ≡ old.is_mixed

module _ (taken : ℕ) (tids : List ℕ) (index : ℕ) where
  -- an access at a spot has its transaction in one of the masks
  pub spot_some : (accesses : List ListedAccess) (spot : Spot) (q : ListedAccess → Bool) → ArePlaces taken tids accesses
      → IsSpotOf taken tids accesses index spot → ((a : ListedAccess) → q a ≡ true → nat_eq (spot_at a.key) index ≡ true)
      → list_any q accesses ≡ true → ((i : ℕ) × (is_set spot.readers i ≡ true)) ⊎ ((i : ℕ) × (is_set spot.writers i ≡ true))
  spot_some accesses spot q places knows here some =
      let (u, his) = any_owner q accesses some in
      let (i, at) = places.listed u (any_implied (λ (a : ListedAccess). nat_eq a.by u && q a) (λ (a : ListedAccess). nat_eq a.by u)
      (λ a h. (and_parts (nat_eq a.by u) (q a) h).0) accesses his) in
      elim (any_either (λ (a : ListedAccess). nat_eq a.by u && q a) (λ (a : ListedAccess). nat_eq a.by u && reads_at index a)
      (λ (a : ListedAccess). nat_eq a.by u && writes_at index a) (split u) accesses his) [
        | inl read ↦ inl (i, (knows.readers i).1 (has_from taken tids (reads_at index) accesses u i read at))
        | inr written ↦ inr (i, (knows.writers i).1 (has_from taken tids (writes_at index) accesses u i written at))
      ]
    where
      split : (u : ℕ) (a : ListedAccess) → (nat_eq a.by u && q a) ≡ true
          → ((nat_eq a.by u && reads_at index a) ≡ true) ⊎ ((nat_eq a.by u && writes_at index a) ≡ true)
      split u a h =
          let parts = and_parts (nat_eq a.by u) (q a) h in
          let there = here a parts.1 in
          elim (cases_Bool (is_store a.kind)) [
            | inl store ↦ inr (and_from (nat_eq a.by u) (writes_at index a) parts.0 (and_from (nat_eq (spot_at a.key) index) (is_store a.kind) there store))
            | inr look ↦ inl (and_from (nat_eq a.by u) (reads_at index a) parts.0
                (and_from (nat_eq (spot_at a.key) index) (not (is_store a.kind)) there (not_from_false (is_store a.kind) look)))
          ]

  -- one access more, of the transaction at a place
  module _ (accesses : List ListedAccess) (a : ListedAccess) (p : ℕ) (places : ArePlaces taken tids accesses)
      (at : is_at taken tids a.by p ≡ true) where
    pub spot_apart : (spot : Spot) → nat_eq (spot_at a.key) index ≡ false → IsSpotOf taken tids accesses index spot
        → IsSpotOf taken tids (accesses ++ a ∷ []) index spot
    spot_apart spot apart knows = record {
      readers = mask_noted taken tids (reads_at index) accesses a p spot.readers spot.readers places.apart at
          (λ i h. inl h) (λ i h. h) (λ t. absurd (none (not (is_store a.kind)) t)) knows.readers;
      writers = mask_noted taken tids (writes_at index) accesses a p spot.writers spot.writers places.apart at
          (λ i h. inl h) (λ i h. h) (λ t. absurd (none (is_store a.kind) t)) knows.writers;
      one_key = λ alone. false_from_ne_true (list_any (has_other_key index spot.key) (accesses ++ a ∷ [])) (λ h.
          elim (any_cases (has_other_key index spot.key) accesses a h) [
            | inl old ↦ both_ways (list_any (has_other_key index spot.key) accesses) (knows.one_key alone) old
            | inr new ↦ none (not (key_eq a.key spot.key)) new
          ]);
    }
      where
        none : (b : Bool) → (nat_eq (spot_at a.key) index && b) ≡ true → ⊥
        none b t = both_ways (nat_eq (spot_at a.key) index) apart (and_parts (nat_eq (spot_at a.key) index) b t).0

    module _ (old new : Spot) (set : ℕ) (only : (i : ℕ) → is_set set i ≡ nat_eq i p) (here : nat_eq (spot_at a.key) index ≡ true)
        (raised : IsRaised old new set a.key a.kind) (knows : IsSpotOf taken tids accesses index old) where
      -- of a mask
      grown : (mask mask' : ℕ) (b : Bool) → ((i : ℕ) → is_set mask' i ≡ (is_set mask i || (b && is_set set i)))
          → (i : ℕ) → is_set mask' i ≡ true → (is_set mask i ≡ true) ⊎ (((nat_eq (spot_at a.key) index && b) ≡ true) × (i ≡ p))
      grown mask mask' b grows i h = elim (or_cases (is_set mask i) (b && is_set set i) (sym (grows i) ∙ h)) [
        | inl before ↦ inl before
        | inr now ↦
            let parts = and_parts b (is_set set i) now in
            inr (and_from (nat_eq (spot_at a.key) index) b here parts.0, eqb-true i p (sym (only i) ∙ parts.1))
      ]

      added : (mask mask' : ℕ) (b : Bool) → ((i : ℕ) → is_set mask' i ≡ (is_set mask i || (b && is_set set i)))
          → (nat_eq (spot_at a.key) index && b) ≡ true → is_set mask' p ≡ true
      added mask mask' b grows t = grows p ∙ or_right (is_set mask p) (b && is_set set p)
          (and_from b (is_set set p) (and_parts (nat_eq (spot_at a.key) index) b t).1 (only p ∙ eq-eqb p p refl))

      other_key : new.is_mixed ≡ false → list_any (has_other_key index new.key) (accesses ++ a ∷ []) ≡ true → ⊥
      other_key alone h =
          let (same, before) = raised.one_key alone in
          elim (any_cases (has_other_key index new.key) accesses a h) [
            | inr now ↦ both_ways (key_eq a.key new.key)
                (not-true (key_eq a.key new.key) (and_parts (nat_eq (spot_at a.key) index) (not (key_eq a.key new.key)) now).1)
                (equal_keys a.key new.key (sym same))
            | inl earlier ↦ elim before [
              | inl empty ↦ elim (spot_some accesses old (has_other_key index new.key) places knows
                  (λ x t. (and_parts (nat_eq (spot_at x.key) index) (not (key_eq x.key new.key)) t).0) earlier) [
                    | inl reader ↦ zero_none old.readers reader.0 empty.0 reader.1
                    | inr writer ↦ zero_none old.writers writer.0 empty.1 writer.1
                  ]
              | inr one ↦ both_ways (list_any (has_other_key index old.key) accesses) (knows.one_key one.0)
                  (subst (λ k. list_any (has_other_key index k) accesses ≡ true) (same ∙ sym one.1) earlier)
            ]
          ]

      pub spot_noted : IsSpotOf taken tids (accesses ++ a ∷ []) index new
      spot_noted = record {
        readers = mask_noted taken tids (reads_at index) accesses a p old.readers new.readers places.apart at
            (grown old.readers new.readers (not (is_store a.kind)) raised.readers)
            (λ i h. raised.readers i ∙ or_left (is_set old.readers i) (not (is_store a.kind) && is_set set i) h)
            (added old.readers new.readers (not (is_store a.kind)) raised.readers) knows.readers;
        writers = mask_noted taken tids (writes_at index) accesses a p old.writers new.writers places.apart at
            (grown old.writers new.writers (is_store a.kind) raised.writers)
            (λ i h. raised.writers i ∙ or_left (is_set old.writers i) (is_store a.kind && is_set set i) h)
            (added old.writers new.writers (is_store a.kind) raised.writers) knows.writers;
        one_key = λ alone. false_from_ne_true (list_any (has_other_key index new.key) (accesses ++ a ∷ [])) (other_key alone);
      }

  -- a place more
  pub spot_placed : (accesses : List ListedAccess) (spot : Spot) (t p taken' : ℕ) (tids' : List ℕ) → length tids ≡ 32
      → IsTaken taken tids t p taken' tids' → is_listed accesses t ≡ false → IsSpotOf taken tids accesses index spot
      → IsSpotOf taken' tids' accesses index spot
  spot_placed accesses spot t p taken' tids' size new none knows = record {
    readers = mask_placed taken tids (reads_at index) accesses spot.readers t p taken' tids' size new none knows.readers;
    writers = mask_placed taken tids (writes_at index) accesses spot.writers t p taken' tids' size new none knows.writers;
    one_key = knows.one_key;
  }

  -- the accesses of t are removed
  pub spot_leaves : (accesses : List ListedAccess) (spot : Spot) (t : ℕ) → IsSpotOf taken tids accesses index spot
      → IsSpotBut taken tids t accesses index spot
  spot_leaves accesses spot t knows = record {
    readers = mask_leaves taken tids (reads_at index) accesses t spot.readers knows.readers;
    writers = mask_leaves taken tids (writes_at index) accesses t spot.writers knows.writers;
    one_key = knows.one_key;
  }

  module _ (accesses rest : List ListedAccess) (a : ListedAccess) (t : ℕ) (by : a.by ≡ t) (less : IsOneLess a accesses rest) where
    still_one : (key : Key) → list_any (has_other_key index key) accesses ≡ false → list_any (has_other_key index key) rest ≡ false
    still_one key none = false_from_ne_true (list_any (has_other_key index key) rest)
        (λ h. both_ways (list_any (has_other_key index key) accesses) none (any_fewer (has_other_key index key) accesses a rest less h))

    pub spot_removed_apart : (spot : Spot) → nat_eq (spot_at a.key) index ≡ false → IsSpotBut taken tids t accesses index spot
        → IsSpotBut taken tids t rest index spot
    spot_removed_apart spot apart knows = record {
      readers = mask_removed taken tids (reads_at index) accesses rest a t spot.readers spot.readers by less
          (λ i h. (h, λ test. absurd (none (not (is_store a.kind)) test))) (λ i h other. h) knows.readers;
      writers = mask_removed taken tids (writes_at index) accesses rest a t spot.writers spot.writers by less
          (λ i h. (h, λ test. absurd (none (is_store a.kind) test))) (λ i h other. h) knows.writers;
      one_key = λ alone. still_one spot.key (knows.one_key alone);
    }
      where
        none : (b : Bool) → (nat_eq (spot_at a.key) index && b) ≡ true → ⊥
        none b h = both_ways (nat_eq (spot_at a.key) index) apart (and_parts (nat_eq (spot_at a.key) index) b h).0

    pub spot_removed : (old new : Spot) (set : ℕ) → ((i : ℕ) → is_set set i ≡ is_at taken tids t i) → IsLowered old new set
        → IsSpotBut taken tids t accesses index old → IsSpotBut taken tids t rest index new
    spot_removed old new set place lowered knows = record {
      readers = mask_removed taken tids (reads_at index) accesses rest a t old.readers new.readers by less
          (goes old.readers new.readers lowered.readers (reads_at index)) (stays old.readers new.readers lowered.readers) knows.readers;
      writers = mask_removed taken tids (writes_at index) accesses rest a t old.writers new.writers by less
          (goes old.writers new.writers lowered.writers (writes_at index)) (stays old.writers new.writers lowered.writers) knows.writers;
      one_key = λ alone. subst (λ k. list_any (has_other_key index k) rest ≡ false) (sym lowered.key)
          (still_one old.key (knows.one_key (sym lowered.mixed ∙ alone)));
    }
      where
        goes : (mask mask' : ℕ) → ((i : ℕ) → is_set mask' i ≡ (is_set mask i && not (is_set set i))) → (test : ListedAccess → Bool)
            → (i : ℕ) → is_set mask' i ≡ true → (is_set mask i ≡ true) × (test a ≡ true → is_at taken tids t i ≡ false)
        goes mask mask' falls test i h =
            let parts = and_parts (is_set mask i) (not (is_set set i)) (sym (falls i) ∙ h) in
            (parts.0, λ passes. sym (place i) ∙ not-true (is_set set i) parts.1)

        stays : (mask mask' : ℕ) → ((i : ℕ) → is_set mask' i ≡ (is_set mask i && not (is_set set i))) → (i : ℕ) → is_set mask i ≡ true
            → is_at taken tids t i ≡ false → is_set mask' i ≡ true
        stays mask mask' falls i h other = falls i
            ∙ and_from (is_set mask i) (not (is_set set i)) h (not_from_false (is_set set i) (place i ∙ other))

  pub spot_left : (accesses : List ListedAccess) (spot : Spot) (t taken' : ℕ) → is_listed accesses t ≡ false
      → ((i : ℕ) → is_set taken' i ≡ (is_set taken i && not (is_at taken tids t i))) → IsSpotBut taken tids t accesses index spot
      → IsSpotOf taken' tids accesses index spot
  spot_left accesses spot t taken' none fewer knows = record {
    readers = mask_left taken tids (reads_at index) accesses t spot.readers taken' none fewer knows.readers;
    writers = mask_left taken tids (writes_at index) accesses t spot.writers taken' none fewer knows.writers;
    one_key = knows.one_key;
  }
