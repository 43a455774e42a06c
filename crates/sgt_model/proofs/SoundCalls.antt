-- Every change keeps the state sound.
use Rattle.std.proofs.Common.{◌≡◌, ◌≢◌, ℕ, suc, ◌<◌, ◌≤◌, ℤ, Bool, true, false, cond, not, ◌&&◌, ◌⊎◌, List, [], ◌∷◌, Option, Some, None, nat_eq, refl, sym, ap, subst, inl, inr, ◌∙◌, arith, length-append}
use Rattle.std.specs.Prelude.{◌↔◌, length}
use Rattle.std.proofs.lemmas.Bool.{and_from, and_parts, or_cases, eqb-true, eq-eqb, both_ways, or_left, or_right}
use Rattle.std.proofs.lemmas.List.Folds.{list_any-append}
use Rattle.std.specs.List.{filter}
use Rattle.sgt_model.specs.declared.kind.Kind.{Kind}
use Rattle.sgt_model.specs.declared.kind.Kind.TheVariants.{Look, Store}
use Rattle.sgt_model.specs.Contents.{Key, key_eq}
use Rattle.sgt_model.specs.Paths.{Member}
use Rattle.sgt_model.specs.Pairs.{one_stores}
use Rattle.sgt_model.specs.Left.{Left}
use Rattle.sgt_model.specs.AccessList.{ListedAccess, is_conflicting, lists_conflicting}
use Rattle.sgt_model.specs.Chains.{chain_without, write_last, writes_in}
use Rattle.sgt_model.specs.ChainOrder.{InOrder}
use Rattle.sgt_model.specs.State.{Has, State, PairIn}
use Rattle.sgt_model.specs.Found.{SourceIs, top}
use Rattle.sgt_model.specs.Changes.{LooksAt, Notes, Removes, Starts}
use Rattle.sgt_model.specs.Soundness.{Sound}
use Rattle.sgt_model.proofs.Stores.{key_eq-true}
use Rattle.sgt_model.proofs.ChainOrder.{any-filter, in_order-add, in_order-filter, in_order-map, last_writes, chain_without-apart, written-cases, in_order-within}
use Rattle.sgt_model.proofs.Capacity.{member_append}
use Rattle.sgt_model.proofs.Listed.{member_added, kept_member, member_kept}

module _ (most : ℕ) (before after : State) (sound : Sound most before) where
  notes_pairs : (t : ℕ) (k : Key) (kind : Kind) → Notes t k kind before after → (a b : ℕ) → PairIn before a b → PairIn after a b
  notes_pairs t k kind n a b p = (n.pairs a b).1 (inl p)

  conflicting_more : (t : ℕ) (k : Key) (kind : Kind) → Notes t k kind before after → (u : ℕ) (j : Key) (way : Kind)
      → lists_conflicting after.accesses u j way ≡ true → (lists_conflicting before.accesses u j way ≡ true) ⊎ (u ≡ t)
  conflicting_more t k kind n u j way q =
      elim (or_cases (lists_conflicting before.accesses u j way)
      (lists_conflicting (record { by = t; key = k; kind = kind } ∷ []) u j way)
      (sym (list_any-append (is_conflicting u j way) before.accesses (record { by = t; key = k; kind = kind } ∷ []))
      ∙ (ap (λ l. lists_conflicting l u j way) (sym n.accesses) ∙ q))) [ inl old ↦ inl old | inr now ↦ inr (by_t now) ]
    where
      by_t : lists_conflicting (record { by = t; key = k; kind = kind } ∷ []) u j way ≡ true → u ≡ t
      by_t m = elim (or_cases (is_conflicting u j way (record { by = t; key = k; kind = kind })) false m) [
        | inl x ↦ sym
            (eqb-true t u (and_parts (nat_eq t u) (key_eq k j && one_stores kind way) x).0)
        | inr z ↦ absurd (cc)
      ]

  conflicting_stays : (t : ℕ) (k : Key) (kind : Kind) → Notes t k kind before after → (u : ℕ) (j : Key) (way : Kind)
      → lists_conflicting before.accesses u j way ≡ true → lists_conflicting after.accesses u j way ≡ true
  conflicting_stays t k kind n u j way q = ap (λ l. lists_conflicting l u j way) n.accesses
      ∙ (list_any-append (is_conflicting u j way) before.accesses (record { by = t; key = k; kind = kind } ∷ [])
      ∙ or_left (lists_conflicting before.accesses u j way) (lists_conflicting (record { by = t; key = k; kind = kind } ∷ []) u j way) q)

  notes_apart : (t : ℕ) (k : Key) (kind : Kind) → Notes t k kind before after → (u v : ℕ) → after.pairs u v ≡ true → u ≢ v
  notes_apart t k kind n u v q = elim ((n.pairs u v).0 q) [ inl old ↦ sound.pair_apart u v old | inr new ↦ (λ z. new.1.apart (z ∙ new.0)) ]

  notes_common : (t : ℕ) (k : Key) (kind : Kind) → before.nodes t ≡ true → Notes t k kind before after
      → ((u v : ℕ) → after.pairs u v ≡ true → (after.nodes u ≡ true) × (after.nodes v ≡ true)) × ((u : ℕ) (j : Key) (way : Kind)
      → lists_conflicting after.accesses u j way ≡ true → after.nodes u ≡ true)
  notes_common t k kind node n = (
    (λ u v q. elim ((n.pairs u v).0 q) [
      | inl old ↦ (let p = sound.pair_nodes u v old in (n.nodes u ∙ p.0, n.nodes v ∙ p.1))
      | inr new ↦ (n.nodes u ∙ sound.access_nodes u k kind new.1.has_conflicting, n.nodes v ∙ (ap before.nodes new.0 ∙ node))
    ]),
    (λ u j way q. n.nodes u ∙ elim (conflicting_more t k kind n u j way q) [
      | inl old ↦ sound.access_nodes u j way old
      | inr e ↦ ap before.nodes e ∙ node
    ]),
  )

  pub sound_look : (t : ℕ) (k : Key) → before.nodes t ≡ true → LooksAt t k before after → Sound most after
  sound_look t k node l = record {
    begun = λ u q. subst (λ n. u < n) (sym l.notes.start_count) (sound.begun u (sym (l.notes.nodes u) ∙ q));
    listed = λ u. (
      (λ q. subst (λ x. Member u x) (sym l.notes.live) ((sound.listed u).0 (sym (l.notes.nodes u) ∙ q))),
      (λ m. l.notes.nodes u ∙ (sound.listed u).1 (subst (λ x. Member u x) l.notes.live m)),
    );
    few = subst (λ x. length x ≤ most) (sym l.notes.live) sound.few;
    pair_nodes = (notes_common t k Look node l.notes).0;
    pair_apart = λ u w q. notes_apart t k Look l.notes u w q;
    access_nodes = (notes_common t k Look node l.notes).1;
    read_nodes = λ u w q. elim ((l.read_from u w).0 q) [
      | inl old ↦ (let p = sound.read_nodes u w old in
          (l.notes.nodes u ∙ p.0, l.notes.nodes w ∙ p.1))
      | inr new ↦ (
        l.notes.nodes u ∙ sound.access_nodes u k Store (sound.writers k u (source u (top before k) refl new.2)),
        l.notes.nodes w ∙ (ap before.nodes new.0 ∙ node),
      )
    ];
    writers = λ j u m. conflicting_stays t k Look l.notes u j Store (sound.writers j u (ap (writes_in u) (sym (l.chain j)) ∙ m));
    order = λ j. subst (λ c. InOrder (PairIn after) c) (sym (l.chain j)) (in_order-map (PairIn before) (PairIn after)
        (notes_pairs t k Look l.notes) (before.chain j) (sound.order j));
  }
    where
      source : (u : ℕ) (o : Option (ℕ × Option ℤ)) → top before k ≡ o → SourceIs o u → writes_in u (before.chain k) ≡ true
      source u None e q = absurd q
      source u (Some w) e q = subst (λ v. writes_in v (before.chain k) ≡ true) q (last_writes (before.chain k) w e)

  pub sound_store : (t : ℕ) (k : Key) (v : Option ℤ) → before.nodes t ≡ true → Notes t k Store before after
      → ((j : Key) → after.chain j ≡ cond (key_eq k j) (write_last t v (before.chain j)) (before.chain j))
      → ((u w : ℕ) → Has after.read_from u w ↔ Has before.read_from u w) → Sound most after
  sound_store t k v node n chain read_from = record {
    begun = λ u q. subst (λ n. u < n) (sym n.start_count) (sound.begun u (sym (n.nodes u) ∙ q));
    listed = λ u. (
      (λ q. subst (λ x. Member u x) (sym n.live) ((sound.listed u).0 (sym (n.nodes u) ∙ q))),
      (λ m. n.nodes u ∙ (sound.listed u).1 (subst (λ x. Member u x) n.live m)),
    );
    few = subst (λ x. length x ≤ most) (sym n.live) sound.few;
    pair_nodes = (notes_common t k Store node n).0;
    pair_apart = λ u w q. notes_apart t k Store n u w q;
    access_nodes = (notes_common t k Store node n).1;
    read_nodes = λ u w q. let p = sound.read_nodes u w ((read_from u w).0 q) in (n.nodes u ∙ p.0, n.nodes w ∙ p.1);
    writers = λ j u m. writers j u (key_eq k j) refl (ap (writes_in u) (sym (chain j)) ∙ m);
    order = λ j. subst (λ c. InOrder (PairIn after) c) (sym (chain j)) (order j (key_eq k j) refl);
  }
    where
      writers : (j : Key) (u : ℕ) (b : Bool) → key_eq k j ≡ b
          → writes_in u (cond b (write_last t v (before.chain j)) (before.chain j)) ≡ true
          → lists_conflicting after.accesses u j Store ≡ true
      writers j u false e m = conflicting_stays t k Store n u j Store (sound.writers j u m)
      writers j u true e m = elim (written-cases u t v (before.chain j) m) [
        | inl old ↦ conflicting_stays t k Store n u j Store
            (sound.writers j u old)
        | inr is ↦ ap (λ x. lists_conflicting x u j Store) n.accesses
            ∙ (list_any-append (is_conflicting u j Store) before.accesses (record { by = t; key = k; kind = Store } ∷ [])
            ∙ or_right (lists_conflicting before.accesses u j Store)
            (lists_conflicting (record { by = t; key = k; kind = Store } ∷ []) u j Store)
            (or_left (is_conflicting u j Store (record { by = t; key = k; kind = Store })) false
            (and_from (nat_eq t u) (key_eq k j && true) (eq-eqb t u is) (and_from (key_eq k j) true e refl))))
      ]

      order : (j : Key) (b : Bool) → key_eq k j ≡ b → InOrder (PairIn after) (cond b (write_last t v (before.chain j)) (before.chain j))
      order j false e = in_order-map (PairIn before) (PairIn after) (notes_pairs t k Store n) (before.chain j) (sound.order j)
      order j true e = in_order-add (PairIn after) t v (chain_without t (before.chain j))
          (in_order-filter (PairIn after) (λ w. not (nat_eq w.0 t)) (before.chain j) (in_order-map (PairIn before) (PairIn after)
          (notes_pairs t k Store n) (before.chain j) (sound.order j)))
          (λ u m. (n.pairs u t).1
          (inr (
            refl,
            record {
              apart = chain_without-apart u t (before.chain j) m;
              has_conflicting = subst
                  (λ z. lists_conflicting before.accesses u z Store ≡ true) (sym (key_eq-true k j e))
                  (sound.writers j u (any-filter u (λ w. not (nat_eq w.0 t)) (before.chain j) m));
            },
          )))

  pub sound_removes : (gone : ℕ → Bool) → Removes gone before after → Sound most after
  sound_removes gone r = record {
    begun = λ u q. subst (λ n. u < n) (sym r.start_count) (sound.begun u (was u q).0);
    listed = λ u. (
      (λ q. subst (λ x. Member u x) (sym r.live) (let w = was u q in kept_member (λ x. not (gone x)) u before.live w.1
          ((sound.listed u).0 w.0))),
      (λ m. let w = member_kept (λ x. not (gone x)) u before.live (subst (λ x. Member u x) r.live m) in
          still u ((sound.listed u).1 w.1) w.0),
    );
    few = subst (λ x. length x ≤ most) (sym r.live) (let l = shorter (λ u. not (gone u)) before.live in let f = sound.few in omega arith);
    pair_nodes = λ u v q. let p = and_parts (before.pairs u v) (not (gone u) && not (gone v)) (sym (r.pairs u v) ∙ q) in
        let g = and_parts (not (gone u)) (not (gone v)) p.1 in let n = sound.pair_nodes u v p.0 in (still u n.0 g.0, still v n.1 g.1);
    pair_apart = λ u v q. sound.pair_apart u v (and_parts (before.pairs u v) (not (gone u) && not (gone v)) (sym (r.pairs u v) ∙ q)).0;
    access_nodes = λ u j way q. let w = conflicting_was u j way before.accesses
        (ap (λ l. lists_conflicting l u j way) (sym r.accesses) ∙ q) in still u (sound.access_nodes u j way w.1) w.0;
    read_nodes = λ u v q. let p = (r.read_from u v).0 q in let n = sound.read_nodes u v p.0 in
        (still u n.0 (ap not p.1), still v n.1 (ap not p.2));
    writers = λ j u m. let w = writer_was u (before.chain j) (ap (writes_in u) (sym (r.chain j)) ∙ m) in
        ap (λ l. lists_conflicting l u j Store) r.accesses ∙ conflicting_kept u j Store before.accesses w.0 (sound.writers j u w.1);
    order = λ j. subst (λ c. InOrder (PairIn after) c) (sym (r.chain j)) (in_order-within (PairIn before) (PairIn after)
        (λ u. not (gone u)) (λ a b ga gb p. r.pairs a b ∙ and_from (before.pairs a b) (not (gone a) && not (gone b)) p
        (and_from (not (gone a)) (not (gone b)) ga gb)) (before.chain j) (sound.order j));
  }
    where
      was : (u : ℕ) → after.nodes u ≡ true → (before.nodes u ≡ true) × (not (gone u) ≡ true)
      was u q = and_parts (before.nodes u) (not (gone u)) (sym (r.nodes u) ∙ q)

      still : (u : ℕ) → before.nodes u ≡ true → not (gone u) ≡ true → after.nodes u ≡ true
      still u n g = r.nodes u ∙ and_from (before.nodes u) (not (gone u)) n g

      shorter : (f : ℕ → Bool) (l : List ℕ) → length (filter f l) ≤ length l
      shorter f [] = omega arith
      shorter f (x ∷ l) = one (f x) (shorter f l)
        where
          one : (b : Bool) → length (filter f l) ≤ length l → length (cond b (x ∷ filter f l) (filter f l)) ≤ suc (length l)
          one true ih = omega arith
          one false ih = omega arith

      conflicting_was : (u : ℕ) (j : Key) (way : Kind) (l : List ListedAccess)
          → lists_conflicting (filter (λ a. not (gone a.by)) l) u j way ≡ true
          → (not (gone u) ≡ true) × (lists_conflicting l u j way ≡ true)
      conflicting_was u j way [] q = absurd (cc)
      conflicting_was u j way (x ∷ l) q = one (not (gone x.by)) refl (conflicting_was u j way l) q
        where
          one : (b : Bool) → not (gone x.by) ≡ b → (lists_conflicting (filter (λ a. not (gone a.by)) l) u j way ≡ true
              → (not (gone u) ≡ true) × (lists_conflicting l u j way ≡ true))
              → lists_conflicting (cond b (x ∷ filter (λ a. not (gone a.by)) l) (filter (λ a. not (gone a.by)) l)) u j way ≡ true
              → (not (gone u) ≡ true) × (lists_conflicting (x ∷ l) u j way ≡ true)
          one true e ih q =
              elim (or_cases (is_conflicting u j way x)
              (lists_conflicting (filter (λ a. not (gone a.by)) l) u j way) q) [
                | inl now ↦ (
                  ap (λ y. not (gone y))
                      (sym (eqb-true x.by u (and_parts (nat_eq x.by u) (key_eq x.key j && one_stores x.kind way) now).0)) ∙ e,
                  or_left (is_conflicting u j way x) (lists_conflicting l u j way) now,
                )
                | inr z ↦ ((ih z).0, or_right (is_conflicting u j way x) (lists_conflicting l u j way) (ih z).1)
              ]
          one false e ih q = ((ih q).0, or_right (is_conflicting u j way x) (lists_conflicting l u j way) (ih q).1)

      conflicting_kept : (u : ℕ) (j : Key) (way : Kind) (l : List ListedAccess) → not (gone u) ≡ true
          → lists_conflicting l u j way ≡ true → lists_conflicting (filter (λ a. not (gone a.by)) l) u j way ≡ true
      conflicting_kept u j way [] g q = q
      conflicting_kept u j way (x ∷ l) g q = one (not (gone x.by)) refl (conflicting_kept u j way l g)
          (or_cases (is_conflicting u j way x) (lists_conflicting l u j way) q)
        where
          one : (b : Bool) → not (gone x.by) ≡ b
              → (lists_conflicting l u j way ≡ true → lists_conflicting (filter (λ a. not (gone a.by)) l) u j way ≡ true)
              → (is_conflicting u j way x ≡ true) ⊎ (lists_conflicting l u j way ≡ true)
              → lists_conflicting (cond b (x ∷ filter (λ a. not (gone a.by)) l) (filter (λ a. not (gone a.by)) l)) u j way ≡ true
          one true e ih (inl now) = or_left (is_conflicting u j way x) (lists_conflicting (filter (λ a. not (gone a.by)) l) u j way) now
          one true e ih (inr z) = or_right (is_conflicting u j way x) (lists_conflicting (filter (λ a. not (gone a.by)) l) u j way) (ih z)
          one false e ih (inl now) =
              absurd (both_ways (not (gone x.by)) e
              (ap (λ y. not (gone y)) (eqb-true x.by u (and_parts (nat_eq x.by u) (key_eq x.key j && one_stores x.kind way) now).0) ∙ g))
          one false e ih (inr z) = ih z

      writer_was : (u : ℕ) (c : List (ℕ × Option ℤ)) → writes_in u (filter (λ w. not (gone w.0)) c) ≡ true
          → (not (gone u) ≡ true) × (writes_in u c ≡ true)
      writer_was u [] q = absurd (cc)
      writer_was u (x ∷ l) q = one (not (gone x.0)) refl (writer_was u l) q
        where
          one : (b : Bool) → not (gone x.0) ≡ b → (writes_in u (filter (λ w. not (gone w.0)) l) ≡ true
              → (not (gone u) ≡ true) × (writes_in u l ≡ true))
              → writes_in u (cond b (x ∷ filter (λ w. not (gone w.0)) l) (filter (λ w. not (gone w.0)) l)) ≡ true
              → (not (gone u) ≡ true) × (writes_in u (x ∷ l) ≡ true)
          one true e ih q =
              elim (or_cases (nat_eq x.0 u) (writes_in u (filter (λ w. not (gone w.0)) l)) q) [
                | inl now ↦ (
                  ap (λ y. not (gone y))
                      (sym (eqb-true x.0 u now)) ∙ e,
                  or_left (nat_eq x.0 u) (writes_in u l) now,
                )
                | inr z ↦ ((ih z).0, or_right (nat_eq x.0 u) (writes_in u l) (ih z).1)
              ]
          one false e ih q = ((ih q).0, or_right (nat_eq x.0 u) (writes_in u l) (ih q).1)

  pub sound_starts : (at_start : Left) → length before.live < most → Starts at_start before after → Sound most after
  sound_starts call capacity x = record {
    begun = λ u q. elim (or_cases (before.nodes u) (nat_eq u before.start_count)
        (sym (x.nodes u) ∙ q)) [
          | inl old ↦ (let b = sound.begun u old in let e = x.start_count in omega arith)
          | inr new ↦ (let is = eqb-true u before.start_count new in let e = x.start_count in omega arith)
        ];
    listed = λ u. (
      (λ q. subst (λ l. Member u l) (sym x.live)
          (elim (or_cases (before.nodes u) (nat_eq u before.start_count)
          (sym (x.nodes u) ∙ q)) [
            | inl old ↦ member_added u before.live before.start_count (inl ((sound.listed u).0 old))
            | inr new ↦ member_added u before.live before.start_count (inr (eqb-true u before.start_count new))
          ])),
      (λ m. x.nodes u ∙ elim (member_append u before.live before.start_count (subst (λ l. Member u l) x.live m)) [
        | inl old ↦ or_left
            (before.nodes u) (nat_eq u before.start_count) ((sound.listed u).1 old)
        | inr new ↦ or_right (before.nodes u) (nat_eq u before.start_count) (eq-eqb u before.start_count new)
      ]),
    );
    few = subst (λ l. length l ≤ most) (sym x.live) (let e = length-append before.live (before.start_count ∷ []) in omega arith);
    pair_nodes = λ u v q. let n = sound.pair_nodes u v (sym (x.pairs u v) ∙ q) in (still u n.0, still v n.1);
    pair_apart = λ u v q. sound.pair_apart u v (sym (x.pairs u v) ∙ q);
    access_nodes = λ u j way q. still u (sound.access_nodes u j way (ap (λ l. lists_conflicting l u j way) (sym x.accesses) ∙ q));
    read_nodes = λ u v q. let n = sound.read_nodes u v ((x.read_from u v).0 q) in (still u n.0, still v n.1);
    writers = λ j u m. ap (λ l. lists_conflicting l u j Store) x.accesses ∙ sound.writers j u (ap (writes_in u) (sym (x.chain j)) ∙ m);
    order = λ j. subst (λ c. InOrder (PairIn after) c) (sym (x.chain j)) (in_order-map (PairIn before) (PairIn after)
        (λ a b p. x.pairs a b ∙ p) (before.chain j) (sound.order j));
  }
    where
      still : (u : ℕ) → before.nodes u ≡ true → after.nodes u ≡ true
      still u n = x.nodes u ∙ or_left (before.nodes u) (nat_eq u before.start_count) n
