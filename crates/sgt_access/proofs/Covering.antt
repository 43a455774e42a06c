-- Masks know the accesses after each change, and say which transactions are rivals.
use Rattle.std.proofs.Common.{◌≡◌, ◌≢◌, ℕ, ◌<◌, ◌⊎◌, Bool, true, false, ◌||◌, ◌&&◌, not, nat_eq, List, [], ◌∷◌, ◌++◌, length, get_or, set, slice_index, Option, Some, None, IfSome, IsNone, refl, sym, ap, subst, ◌∙◌, inl, inr}
use Rattle.std.specs.List.{list_any}
use Rattle.std.proofs.lemmas.Bool.{true≢false, cases_Bool, cases_eq, eqb-true, eq-eqb, or_cases, or_left, or_right, and_parts, and_from, not-true, not_from_false, false_from_ne_true, both_ways}
use Rattle.std.proofs.lemmas.List.{length-set, get_or-set_same, get_or-set_other}
use Rattle.std.proofs.Math.ListN.{length-set as size-set}
use Rattle.sgt_model.specs.declared.kind.Kind.{Kind}
use Rattle.sgt_model.specs.declared.kind.Kind.TheVariants.{Look, Store}
use Rattle.sgt_model.specs.Contents.{Key, key_eq}
use Rattle.sgt_model.specs.Accesses.{is_store}
use Rattle.sgt_model.specs.Pairs.{one_stores}
use Rattle.sgt_model.specs.AccessList.{ListedAccess, is_conflicting, is_listed, lists_conflicting}
use Rattle.sgt_cycle.specs.Indices.{is_set}
use Rattle.sgt_cycle.proofs.Bits.{none_in}
use Rattle.sgt_access.specs.Places.{is_at, IsTaken}
use Rattle.sgt_access.specs.declared.spot.Spot.{Spot}
use Rattle.sgt_access.specs.Masks.{spot_at, reads_at, writes_at, has_other_key, IsOneLess, HasAt, IsSpotOf, ArePlaces, AreMasks, AreRivalsAt, IsSpotBut, AreMasksBut}
use Rattle.sgt_access.proofs.Keys.{same_key}
use Rattle.sgt_access.proofs.Marks.{any_implied, any_either, any_cases, any_fewer, at_parts, at_from, has_from, placed_apart, placed_there}
use Rattle.sgt_access.proofs.Spots.{zero_none, IsRaised, IsLowered, spot_apart, spot_noted, spot_placed, spot_leaves, spot_removed_apart, spot_removed, spot_left}

-- a transaction is placed that had no access
module _ (taken : ℕ) (tids : List ℕ) (accesses : List ListedAccess) (t p taken' : ℕ) (tids' : List ℕ)
    (places : ArePlaces taken tids accesses) (new : IsTaken taken tids t p taken' tids')
    (absent : (i : ℕ) → is_at taken tids t i ≡ false) where
  pub unlisted : is_listed accesses t ≡ false
  unlisted = false_from_ne_true (is_listed accesses t) (λ h.
      let (i, at) = places.listed t h in both_ways (is_at taken tids t i) (absent i) at)

  same : (i : ℕ) → i ≢ p → slice_index tids' i ≡ slice_index tids i
  same = placed_apart taken tids (λ a. true) accesses 0 t p taken' tids' places.size new unlisted

  there : slice_index tids' p ≡ t
  there = placed_there taken tids (λ a. true) accesses 0 t p taken' tids' places.size new unlisted

  pub at_place : is_at taken' tids' t p ≡ true
  at_place = at_from taken' tids' t p (new.more p ∙ or_right (is_set taken p) (nat_eq p p) (eq-eqb p p refl)) there

  at_cases : (u i : ℕ) → is_at taken' tids' u i ≡ true → (is_at taken tids u i ≡ true) ⊎ ((i ≡ p) × (u ≡ t))
  at_cases u i h =
      let parts = at_parts taken' tids' u i h in
      elim (cases_eq i p) [
        | inl e ↦ inr (e, sym parts.1 ∙ ap (slice_index tids') e ∙ there)
        | inr other ↦ elim (or_cases (is_set taken i) (nat_eq i p) (sym (new.more i) ∙ parts.0)) [
          | inl old ↦ inl (at_from taken tids u i old (sym (same i other) ∙ parts.1))
          | inr here ↦ absurd (other (eqb-true i p here))
        ]
      ]

  old_at : (u i : ℕ) → is_at taken tids u i ≡ true → is_at taken' tids' u i ≡ true
  old_at u i h =
      let parts = at_parts taken tids u i h in
      let other : i ≢ p = λ e. both_ways (is_set taken p) new.free (subst (λ x. is_set taken x ≡ true) e parts.0) in
      at_from taken' tids' u i (new.more i ∙ or_left (is_set taken i) (nat_eq i p) parts.0) (same i other ∙ parts.1)

  pub placed : ArePlaces taken' tids' accesses
  placed = record {
    size = ap length new.there ∙ size-set tids p t ∙ places.size;
    apart = λ i j u a b. elim (at_cases u i a) [
      | inl old ↦ elim (at_cases u j b) [
        | inl old' ↦ places.apart i j u old old'
        | inr new' ↦ absurd (both_ways (is_at taken tids t i) (absent i) (subst (λ v. is_at taken tids v i ≡ true) new'.1 old))
      ]
      | inr new' ↦ elim (at_cases u j b) [
        | inl old ↦ absurd (both_ways (is_at taken tids t j) (absent j) (subst (λ v. is_at taken tids v j ≡ true) new'.1 old))
        | inr also ↦ new'.0 ∙ sym also.0
      ]
    ];
    listed = λ u h. let (i, at) = places.listed u h in (i, old_at u i at);
  }

  pub masks_placed : (spots : List Spot) → AreMasks taken tids spots accesses → AreMasks taken' tids' spots accesses
  masks_placed spots masks = record {
    places = placed;
    many = masks.many;
    spots_are = λ index d short. spot_placed taken tids index accesses (get_or spots index d) t p taken' tids' places.size new unlisted
        (masks.spots_are index d short);
  }

-- one spot of many is changed
module _ (spots : List Spot) (i : ℕ) (old new : Spot) (a : ListedAccess) (at_key : i ≡ spot_at a.key) (short : i < length spots)
    (is : get_or spots i old ≡ old) where
  here : (index : ℕ) → index ≡ i → nat_eq (spot_at a.key) index ≡ true
  here index e = eq-eqb (spot_at a.key) index (sym at_key ∙ sym e)

  apart : (index : ℕ) → index ≢ i → nat_eq (spot_at a.key) index ≡ false
  apart index ne = false_from_ne_true (nat_eq (spot_at a.key) index) (λ t. ne (sym (eqb-true (spot_at a.key) index t) ∙ sym at_key))

  old_there : (Is : ℕ → Spot → Type 0) → ((index : ℕ) (d : Spot) → index < length spots → Is index (get_or spots index d)) → (index : ℕ)
      → index ≡ i → Is index old
  old_there Is all index e = subst (Is index) (ap (λ n. get_or spots n old) e ∙ is) (all index old (subst (λ n. n < length spots) (sym e) short))

  changed : (Was Is : ℕ → Spot → Type 0) → ((index : ℕ) (d : Spot) → index < length spots → Was index (get_or spots index d))
      → ((index : ℕ) → index ≡ i → Was index old → Is index new) → ((index : ℕ) (s : Spot) → index ≢ i → Was index s → Is index s)
      → (index : ℕ) (d : Spot) → index < length (set spots i new) → Is index (get_or (set spots i new) index d)
  changed Was Is all there others index d within = elim (cases_eq index i) [
    | inl e ↦ subst (Is index) (sym (ap (λ n. get_or (set spots i new) n d) e ∙ get_or-set_same spots i new d short))
        (there index e (old_there Was all index e))
    | inr ne ↦ subst (Is index) (sym (get_or-set_other spots i index new d ne))
        (others index (get_or spots index d) ne (all index d (subst (λ n. index < n) (length-set spots i new) within)))
  ]

  -- an access more
  pub masks_noted : (taken : ℕ) (tids : List ℕ) (accesses : List ListedAccess) (p bits : ℕ) → is_at taken tids a.by p ≡ true
      → ((i : ℕ) → is_set bits i ≡ nat_eq i p) → IsRaised old new bits a.key a.kind → AreMasks taken tids spots accesses
      → AreMasks taken tids (set spots i new) (accesses ++ a ∷ [])
  masks_noted taken tids accesses p bits at only raised masks = record {
    places = record {
      size = masks.places.size;
      apart = masks.places.apart;
      listed = λ t h. elim (any_cases (λ (x : ListedAccess). nat_eq x.by t) accesses a h) [
        | inl before ↦ masks.places.listed t before
        | inr now ↦ (p, subst (λ u. is_at taken tids u p ≡ true) (eqb-true a.by t now) at)
      ];
    };
    many = length-set spots i new ∙ masks.many;
    spots_are = changed (IsSpotOf taken tids accesses) (IsSpotOf taken tids (accesses ++ a ∷ [])) masks.spots_are
        (λ index e was. spot_noted taken tids index accesses a p masks.places at old new bits only (here index e) raised was)
        (λ index s ne was. spot_apart taken tids index accesses a p masks.places at s (apart index ne) was);
  }

  -- an access of a transaction that leaves is removed
  pub masks_removed : (taken : ℕ) (tids : List ℕ) (accesses rest : List ListedAccess) (t bits : ℕ) → a.by ≡ t → IsOneLess a accesses rest
      → IsLowered old new bits → AreMasksBut taken tids spots t bits accesses → AreMasksBut taken tids (set spots i new) t bits rest
  masks_removed taken tids accesses rest t bits by less lowered masks = record {
    place = masks.place;
    places = record {
      size = masks.places.size;
      apart = masks.places.apart;
      listed = λ u h. masks.places.listed u (any_fewer (λ (x : ListedAccess). nat_eq x.by u) accesses a rest less h);
    };
    many = length-set spots i new ∙ masks.many;
    spots_are = changed (IsSpotBut taken tids t accesses) (IsSpotBut taken tids t rest) masks.spots_are
        (λ index e was. spot_removed taken tids index accesses rest a t by less old new bits masks.place lowered was)
        (λ index s ne was. spot_removed_apart taken tids index accesses rest a t by less s (apart index ne) was);
  }

-- what is known of a spot
pub spot_known : (taken : ℕ) (tids : List ℕ) (spots : List Spot) (accesses : List ListedAccess) (i : ℕ) (key : Key) (spot : Spot)
    → AreMasks taken tids spots accesses → i ≡ spot_at key → i < length spots → spot ≡ get_or spots i spot
    → IsSpotOf taken tids accesses (spot_at key) spot
spot_known taken tids spots accesses i key spot masks at short is = subst (IsSpotOf taken tids accesses (spot_at key)) (sym is)
    (subst (λ n. IsSpotOf taken tids accesses n (get_or spots i spot)) at (masks.spots_are i spot short))

-- there are no accesses
pub masks_none : (taken : ℕ) (tids : List ℕ) (spots : List Spot) (empty : Spot) → taken ≡ 0 → length tids ≡ 32 → length spots ≡ 1024
    → ((index : ℕ) (d : Spot) → index < 1024 → get_or spots index d ≡ empty) → empty.readers ≡ 0 → empty.writers ≡ 0
    → AreMasks taken tids spots []
masks_none taken tids spots empty free size many all no_reader no_writer = record {
  places = record {
    size = size;
    apart = λ i j t a b. absurd (zero_none taken i free (at_parts taken tids t i a).0);
    listed = λ t h. absurd (true≢false (sym h));
  };
  many = many;
  spots_are = λ index d short. subst (IsSpotOf taken tids [] index) (sym (all index d (subst (λ n. index < n) many short)))
      (record {
        readers = λ i. (λ h. absurd (zero_none empty.readers i no_reader h), λ has. absurd (true≢false (sym has.1)));
        writers = λ i. (λ h. absurd (zero_none empty.writers i no_writer h), λ has. absurd (true≢false (sym has.1)));
        one_key = λ alone. refl;
      });
}

-- a place is given, if one is free
pub masks_taken : (taken : ℕ) (tids : List ℕ) (spots : List Spot) (accesses : List ListedAccess) (t taken' : ℕ) (tids' : List ℕ)
    (result : Option ℕ) → IfSome result (λ place. IsTaken taken tids t place taken' tids')
    → (IsNone result → (taken' ≡ taken) × (tids' ≡ tids)) → ((i : ℕ) → is_at taken tids t i ≡ false) → AreMasks taken tids spots accesses
    → AreMasks taken' tids' spots accesses
masks_taken taken tids spots accesses t taken' tids' None some none absent masks =
    let (same, also) = none refl in
    subst (λ n. AreMasks n tids' spots accesses) (sym same) (subst (λ l. AreMasks taken l spots accesses) (sym also) masks)
masks_taken taken tids spots accesses t taken' tids' (Some place) some none absent masks =
    masks_placed taken tids accesses t place taken' tids' masks.places some absent spots masks

-- a transaction is at its place alone
pub alone_at : (taken : ℕ) (tids : List ℕ) (accesses : List ListedAccess) (t p : ℕ) → ArePlaces taken tids accesses
    → is_at taken tids t p ≡ true → (i : ℕ) → nat_eq i p ≡ is_at taken tids t i
alone_at taken tids accesses t p places at i = elim (cases_eq i p) [
  | inl e ↦ eq-eqb i p e ∙ sym (subst (λ x. is_at taken tids t x ≡ true) (sym e) at)
  | inr ne ↦ false_from_ne_true (nat_eq i p) (λ h. ne (eqb-true i p h))
      ∙ sym (false_from_ne_true (is_at taken tids t i) (λ h. ne (places.apart i p t h at)))
]

-- a transaction leaves
pub masks_leave : (taken : ℕ) (tids : List ℕ) (spots : List Spot) (accesses : List ListedAccess) (t bits : ℕ)
    → ((i : ℕ) → is_set bits i ≡ is_at taken tids t i) → AreMasks taken tids spots accesses → AreMasksBut taken tids spots t bits accesses
masks_leave taken tids spots accesses t bits place masks = record {
  place = place;
  places = masks.places;
  many = masks.many;
  spots_are = λ index d short. spot_leaves taken tids index accesses (get_or spots index d) t (masks.spots_are index d short);
}

-- and has left
pub masks_left : (taken : ℕ) (tids : List ℕ) (spots : List Spot) (accesses : List ListedAccess) (t bits taken' : ℕ) (tids' : List ℕ)
    → tids' ≡ tids → ((i : ℕ) → is_set taken' i ≡ (is_set taken i && not (is_set bits i))) → is_listed accesses t ≡ false
    → AreMasksBut taken tids spots t bits accesses → AreMasks taken' tids' spots accesses
masks_left taken tids spots accesses t bits taken' tids' same fewer none masks =
    subst (λ l. AreMasks taken' l spots accesses) (sym same) (record {
      places = record {
        size = masks.places.size;
        apart = λ i j u a b. masks.places.apart i j u (was u i a) (was u j b);
        listed = λ u h. let (i, at) = masks.places.listed u h in
            let parts = at_parts taken tids u i at in (
              i,
              at_from taken' tids u i (left i ∙ and_from (is_set taken i) (not (is_at taken tids t i)) parts.0 (not_from_false (is_at taken tids t i)
                  (false_from_ne_true (is_at taken tids t i) (λ here. both_ways (is_listed accesses t) none
                  (subst (λ v. is_listed accesses v ≡ true) (sym parts.1 ∙ (at_parts taken tids t i here).1) h))))) parts.1,
            );
      };
      many = masks.many;
      spots_are = λ index d short. spot_left taken tids index accesses (get_or spots index d) t taken' none left (masks.spots_are index d short);
    })
  where
    left : (i : ℕ) → is_set taken' i ≡ (is_set taken i && not (is_at taken tids t i))
    left i = fewer i ∙ ap (λ b. is_set taken i && not b) (masks.place i)

    was : (u i : ℕ) → is_at taken' tids u i ≡ true → is_at taken tids u i ≡ true
    was u i h =
        let parts = at_parts taken' tids u i h in
        at_from taken tids u i (and_parts (is_set taken i) (not (is_at taken tids t i)) (sym (left i) ∙ parts.0)).0 parts.1

-- if no place is taken, there is no access
pub idle_none : (taken : ℕ) (tids : List ℕ) (spots : List Spot) (accesses : List ListedAccess) → ((i : ℕ) → is_set taken i ≡ false)
    → AreMasks taken tids spots accesses → accesses ≡ []
idle_none taken tids spots [] free masks = refl
idle_none taken tids spots (a ∷ accesses) free masks =
    let (i, at) = masks.places.listed a.by (or_left (nat_eq a.by a.by) (is_listed accesses a.by) (eq-eqb a.by a.by refl)) in
    absurd (both_ways (is_set taken i) (free i) (at_parts taken tids a.by i at).0)

-- what a spot says of the rivals of an access of its key
module _ (taken : ℕ) (tids : List ℕ) (accesses : List ListedAccess) (spot : Spot) (t : ℕ) (key : Key) (kind : Kind) (all : ℕ)
    (places : ArePlaces taken tids accesses) (knows : IsSpotOf taken tids accesses (spot_at key) spot)
    (all_are : (i : ℕ) → is_set all i ≡ (is_set spot.writers i || (is_store kind && is_set spot.readers i))) where
  -- an access at the spot conflicts with one of the kind
  abbrev meets : ListedAccess → Bool
  meets a = nat_eq (spot_at a.key) (spot_at key) && one_stores a.kind kind

  write_meets : (a kind : Kind) → is_store a ≡ true → one_stores a kind ≡ true
  write_meets Store kind h = refl
  write_meets Look kind h = absurd (true≢false (sym h))

  meets_write : (a kind : Kind) → is_store kind ≡ true → one_stores a kind ≡ true
  meets_write Store kind h = refl
  meets_write Look Store h = refl
  meets_write Look Look h = absurd (true≢false (sym h))

  one_writes : (a kind : Kind) → one_stores a kind ≡ true → (is_store a ≡ true) ⊎ ((is_store kind ≡ true) × (not (is_store a) ≡ true))
  one_writes Store kind h = inl refl
  one_writes Look Store h = inr (refl, refl)
  one_writes Look Look h = absurd (true≢false (sym h))

  -- the places of all
  all_has : (i : ℕ) → is_set all i ≡ true → HasAt taken tids accesses meets i
  all_has i h = elim (or_cases (is_set spot.writers i) (is_store kind && is_set spot.readers i) (sym (all_are i) ∙ h)) [
    | inl writer ↦ let has = (knows.writers i).0 writer in (
      has.0,
      any_implied _ (λ (a : ListedAccess). nat_eq a.by (slice_index tids i) && meets a)
          (λ a x. let (by, rest) = and_parts (nat_eq a.by (slice_index tids i)) (writes_at (spot_at key) a) x in
          let (there, store) = and_parts (nat_eq (spot_at a.key) (spot_at key)) (is_store a.kind) rest in
          and_from (nat_eq a.by (slice_index tids i)) (meets a) by (and_from (nat_eq (spot_at a.key) (spot_at key)) (one_stores a.kind kind) there (write_meets a.kind kind store)))
          accesses has.1,
    )
    | inr both ↦
        let (stores, reader) = and_parts (is_store kind) (is_set spot.readers i) both in
        let has = (knows.readers i).0 reader in (
          has.0,
          any_implied _ (λ (a : ListedAccess). nat_eq a.by (slice_index tids i) && meets a)
              (λ a x. let (by, rest) = and_parts (nat_eq a.by (slice_index tids i)) (reads_at (spot_at key) a) x in
              let there = (and_parts (nat_eq (spot_at a.key) (spot_at key)) (not (is_store a.kind)) rest).0 in
              and_from (nat_eq a.by (slice_index tids i)) (meets a) by (and_from (nat_eq (spot_at a.key) (spot_at key)) (one_stores a.kind kind) there (meets_write a.kind kind stores)))
              accesses has.1,
        )
  ]

  -- an access of the key is at the spot
  key_there : (a : ListedAccess) → key_eq a.key key ≡ true → nat_eq (spot_at a.key) (spot_at key) ≡ true
  key_there a h = eq-eqb (spot_at a.key) (spot_at key) (ap spot_at (same_key a.key key h))

  -- an access by u that is at the spot
  abbrev reader : ℕ → ListedAccess → Bool
  reader u a = nat_eq a.by u && reads_at (spot_at key) a

  abbrev writer : ℕ → ListedAccess → Bool
  writer u a = nat_eq a.by u && writes_at (spot_at key) a

  abbrev reader_meets : ℕ → ListedAccess → Bool
  reader_meets u a = reader u a && is_store kind

  -- another transaction with a conflicting access is at one of the places
  pub rival_at : (u : ℕ) → u ≢ t → lists_conflicting accesses u key kind ≡ true
      → (i : ℕ) × (is_set all i ≡ true) × (is_at taken tids t i ≡ false) × (slice_index tids i ≡ u)
  rival_at u other some =
      let (i, at) = places.listed u (any_implied (is_conflicting u key kind) (λ (a : ListedAccess). nat_eq a.by u)
      (λ a h. (and_parts (nat_eq a.by u) (key_eq a.key key && one_stores a.kind kind) h).0) accesses some) in
      let parts = at_parts taken tids u i at in
      (i, all_are i ∙ in_all i at, false_from_ne_true (is_at taken tids t i) (λ h. other (sym parts.1 ∙ (at_parts taken tids t i h).1)), parts.1)
    where
      split : (a : ListedAccess) → is_conflicting u key kind a ≡ true → (writer u a ≡ true) ⊎ ((reader_meets u a) ≡ true)
      split a h =
          let (by, rest) = and_parts (nat_eq a.by u) (key_eq a.key key && one_stores a.kind kind) h in
          let (same, meet) = and_parts (key_eq a.key key) (one_stores a.kind kind) rest in
          let there = key_there a same in
          elim (one_writes a.kind kind meet) [
            | inl store ↦ inl (and_from (nat_eq a.by u) (writes_at (spot_at key) a) by (and_from (nat_eq (spot_at a.key) (spot_at key)) (is_store a.kind) there store))
            | inr look ↦ inr (and_from (reader u a) (is_store kind) (and_from (nat_eq a.by u) (reads_at (spot_at key) a) by
                (and_from (nat_eq (spot_at a.key) (spot_at key)) (not (is_store a.kind)) there look.1)) look.0)
          ]

      kind_stores : (xs : List ListedAccess) → list_any (reader_meets u) xs ≡ true → is_store kind ≡ true
      kind_stores [] h = absurd (true≢false (sym h))
      kind_stores (x ∷ xs) h = elim (or_cases (reader_meets u x) (list_any (reader_meets u) xs) h) [
        | inl now ↦ (and_parts (reader u x) (is_store kind) now).1
        | inr later ↦ kind_stores xs later
      ]

      in_all : (i : ℕ) → is_at taken tids u i ≡ true → (is_set spot.writers i || (is_store kind && is_set spot.readers i)) ≡ true
      in_all i at = elim (any_either (is_conflicting u key kind) (writer u) (reader_meets u) split accesses some) [
        | inl writes ↦ or_left (is_set spot.writers i) (is_store kind && is_set spot.readers i)
            ((knows.writers i).1 (has_from taken tids (writes_at (spot_at key)) accesses u i writes at))
        | inr reads ↦ or_right (is_set spot.writers i) (is_store kind && is_set spot.readers i)
            (and_from (is_store kind) (is_set spot.readers i) (kind_stores accesses reads)
            ((knows.readers i).1 (has_from taken tids (reads_at (spot_at key)) accesses u i
            (any_implied (reader_meets u) (reader u) (λ a h. (and_parts (reader u a) (is_store kind) h).0) accesses reads) at)))
      ]

  no_place : (u : ℕ) → ((i : ℕ) × (is_set 0 i ≡ true) × (slice_index tids i ≡ u)) → ⊥
  no_place u h = let (i, there, at) = h in both_ways (is_set 0 i) (none_in i) there

  -- if there is no place at all, there is no rival
  pub said_zero : all ≡ 0 → AreRivalsAt accesses tids t key kind 0
  said_zero zero u = (
    λ h. absurd (no_place u h),
    λ h. let (i, there, apart, at) = rival_at u h.0 h.1 in
        absurd (both_ways (is_set 0 i) (none_in i) (subst (λ n. is_set n i ≡ true) zero there)),
  )

  module _ (mine others : ℕ) (mine_are : (i : ℕ) → is_set mine i ≡ is_at taken tids t i)
      (less : (i : ℕ) → is_set others i ≡ (is_set all i && not (is_set mine i))) where
    in_others : (i : ℕ) → is_set all i ≡ true → is_at taken tids t i ≡ false → is_set others i ≡ true
    in_others i there apart = less i ∙ and_from (is_set all i) (not (is_set mine i)) there (not_from_false (is_set mine i) (mine_are i ∙ apart))

    -- if none is left, there is no rival
    pub said_none : others ≡ 0 → AreRivalsAt accesses tids t key kind 0
    said_none zero u = (
      λ h. absurd (no_place u h),
      λ h. let (i, there, apart, at) = rival_at u h.0 h.1 in
          absurd (both_ways (is_set 0 i) (none_in i) (subst (λ n. is_set n i ≡ true) zero (in_others i there apart))),
    )

  module _ (alone : spot.is_mixed ≡ false) where
    -- if the spot is of another key alone, there is none
    pub said_other : key_eq spot.key key ≡ false → AreRivalsAt accesses tids t key kind 0
    said_other differs u = (
      λ h. absurd (no_place u h),
      λ h. absurd (both_ways (list_any (has_other_key (spot_at key) spot.key) accesses) (knows.one_key alone)
          (any_implied (is_conflicting u key kind) (has_other_key (spot_at key) spot.key) other accesses h.1)),
    )
      where
        other : (a : ListedAccess) → is_conflicting u key kind a ≡ true → has_other_key (spot_at key) spot.key a ≡ true
        other a h =
            let same = (and_parts (key_eq a.key key) (one_stores a.kind kind) (and_parts (nat_eq a.by u) (key_eq a.key key && one_stores a.kind kind) h).1).0 in
            and_from (nat_eq (spot_at a.key) (spot_at key)) (not (key_eq a.key spot.key)) (key_there a same)
            (not_from_false (key_eq a.key spot.key) (false_from_ne_true (key_eq a.key spot.key) (λ e.
            both_ways (key_eq spot.key key) differs (subst (λ k. key_eq k key ≡ true) (same_key a.key spot.key e) same))))

    -- if it is of the key alone, its places are exact
    pub said_all : (mine others : ℕ) → ((i : ℕ) → is_set mine i ≡ is_at taken tids t i)
        → ((i : ℕ) → is_set others i ≡ (is_set all i && not (is_set mine i))) → key_eq spot.key key ≡ true
        → AreRivalsAt accesses tids t key kind others
    said_all mine others mine_are less same u = (
      λ h. let (i, there, at) = h in
          let (set, apart) = and_parts (is_set all i) (not (is_set mine i)) (sym (less i) ∙ there) in
          let has = all_has i set in (
            (λ e. both_ways (is_at taken tids t i) (sym (mine_are i) ∙ not-true (is_set mine i) apart) (at_from taken tids t i has.0 (at ∙ e))),
            elim (any_either (λ (a : ListedAccess). nat_eq a.by (slice_index tids i) && meets a) (is_conflicting u key kind)
                (has_other_key (spot_at key) spot.key) (split i at) accesses has.1) [
                  | inl conflict ↦ conflict
                  | inr odd ↦ absurd (both_ways (list_any (has_other_key (spot_at key) spot.key) accesses) (knows.one_key alone) odd)
                ],
          ),
      λ h. let (i, there, apart, at) = rival_at u h.0 h.1 in (i, in_others mine others mine_are less i there apart, at),
    )
      where
        split : (i : ℕ) → slice_index tids i ≡ u → (a : ListedAccess) → (nat_eq a.by (slice_index tids i) && meets a) ≡ true
            → (is_conflicting u key kind a ≡ true) ⊎ (has_other_key (spot_at key) spot.key a ≡ true)
        split i at a h =
            let (by, rest) = and_parts (nat_eq a.by (slice_index tids i)) (meets a) h in
            let (there, meet) = and_parts (nat_eq (spot_at a.key) (spot_at key)) (one_stores a.kind kind) rest in
            elim (cases_Bool (key_eq a.key spot.key)) [
              | inl e ↦ inl (and_from (nat_eq a.by u) (key_eq a.key key && one_stores a.kind kind) (subst (λ v. nat_eq a.by v ≡ true) at by)
                  (and_from (key_eq a.key key) (one_stores a.kind kind) (subst (λ k. key_eq k key ≡ true) (sym (same_key a.key spot.key e)) same) meet))
              | inr ne ↦ inr (and_from (nat_eq (spot_at a.key) (spot_at key)) (not (key_eq a.key spot.key)) there
                  (not_from_false (key_eq a.key spot.key) ne))
            ]
