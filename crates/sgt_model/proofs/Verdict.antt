-- The state agrees with the definitions: the verdict, the value read and its writer, and which transactions are aborted in
-- cascade.
use Rattle.std.proofs.Common.{◌≡◌, ◌≢◌, ℕ, ◌<◌, true, false, not, ◌||◌, List, [], ◌∷◌, Option, Some, None, refl, sym, ap, ap₂, subst, inl, inr, ◌∙◌, arith}
use Rattle.std.specs.Prelude.{length}
use Rattle.std.proofs.lemmas.Bool.{both_ways, or_cases, or_left, or_right, not-true}
use Rattle.std.specs.List.{last_or}
use Rattle.std.specs.Option.{option_or}
use Rattle.sgt_model.specs.declared.entry.Entry.{Entry}
use Rattle.sgt_model.specs.declared.kind.Kind.{Kind}
use Rattle.sgt_model.specs.declared.kind.Kind.TheVariants.{Look}
use Rattle.sgt_model.specs.Contents.{Key}
use Rattle.sgt_model.specs.Paths.{Member, PathOf, last_of, IsLeastPredecessor, HasNoPredecessor}
use Rattle.sgt_model.specs.Accesses.{Access}
use Rattle.sgt_model.specs.Fates.{aborted, committed, live}
use Rattle.sgt_model.specs.Values.{newest_store, settled, value_or, visible}
use Rattle.sgt_model.specs.ReadFrom.{IsBy, ReadFrom}
use Rattle.sgt_model.specs.Falls.{Feeds, Falls}
use Rattle.sgt_model.specs.Pairs.{Pair, Precedes, has_conflicting}
use Rattle.sgt_model.specs.Closes.{Closes}
use Rattle.sgt_model.specs.Configurations.{Configuration}
use Rattle.sgt_model.specs.Legality.{Legal, LivePredecessor, HasNoLivePredecessor}
use Rattle.sgt_model.specs.AccessList.{lists_conflicting}
use Rattle.sgt_model.specs.State.{Has, State, PairIn}
use Rattle.sgt_model.specs.StateAfter.{IsStateAfter}
use Rattle.sgt_model.specs.Blocks.{Blocks}
use Rattle.sgt_model.specs.Found.{SourceIs, found, top, top_value}
use Rattle.sgt_model.specs.FallsIn.{FallsIn}
use Rattle.sgt_model.proofs.Paths.{last_is_member, path_map}
use Rattle.sgt_model.proofs.Facts.{live-stands, live-not_committed, committed-stands, status, has_conflicting-started, precedes-started}
use Rattle.sgt_model.proofs.PairOrder.{no_pair_from_live}
use Rattle.sgt_model.proofs.Stores.{is_by, newest-counts, newest_agree}
use Rattle.sgt_model.proofs.Sources.{read-precedes, source_commits_before, source_of_standing_stands}
use Rattle.sgt_model.proofs.Counted.{lists_conflicting-counts, lists_conflicting-access_list}
use Rattle.sgt_model.proofs.Chains.{chain-last, entry_of, newest-split}

module _ (s : Configuration) (past : List Entry) (h : Legal s past) where
  -- an edge out of a live transaction leads to a live one
  pub pair_live : (t u : ℕ) → live past t ≡ true → Pair past t u → live past u ≡ true
  pair_live t u alive p = elim (status past u (precedes-started s past h t u p.precedes).1) [
    | inl l ↦ l
    | inr (inl c) ↦ absurd (no_pair_from_live s past h t u alive c p)
    | inr (inr a) ↦ absurd (both_ways _ p.second_stands a)
  ]

  pub live_before_committed : (t u : ℕ) → live past t ≡ true → committed past u ≡ true → Precedes past t u → ⊥
  live_before_committed t u alive c p =
      no_pair_from_live s past h t u alive c (record {
        apart = λ e. live-not_committed past t alive (ap (committed past) e ∙ c);
        first_stands = live-stands past t alive;
        second_stands = committed-stands past u c;
        precedes = p;
      })

  -- the newest standing store is the newest of a live one, or where none has one, the newest of a committed one
  pub newest-standing : (k : Key) → newest_store (λ t. not (aborted past t)) k past ≡ option_or (newest_store (live past) k past)
      (newest_store (committed past) k past)
  newest-standing k = sym (newest_agree (λ t. live past t || committed past t) (λ t. not (aborted past t)) k past stand counts)
      ∙ newest-split (live past) (committed past) k past (λ t u l c p. live_before_committed t u l c p)
    where
      stand : (u : ℕ) → (live past u || committed past u) ≡ true → not (aborted past u) ≡ true
      stand u q = elim (or_cases (live past u) (committed past u) q) [
        | inl l ↦ ap not (live-stands past u l)
        | inr c ↦ ap not (committed-stands past u c)
      ]

      counts : (a : Access) → newest_store (λ t. not (aborted past t)) k past ≡ Some a → (live past a.by || committed past a.by) ≡ true
      counts a q = let by = newest-counts (λ t. not (aborted past t)) k past a q in
          elim (status past a.by (has_conflicting-started s past h a.by k Look by.1)) [
            | inl l ↦ or_left (live past a.by)
                (committed past a.by) l
            | inr (inl c) ↦ or_right (live past a.by) (committed past a.by) c
            | inr (inr x) ↦ absurd (both_ways (aborted past a.by) (not-true (aborted past a.by) by.0) x)
          ]

  module _ (c : State) (i : IsStateAfter s past c) where
    -- the verdict

    path_in : (t : ℕ) (rest : List ℕ) → live past t ≡ true → PathOf (Pair past) t rest
        → PathOf (PairIn c) t rest × (live past (last_of t rest) ≡ true)
    path_in t [] alive p = (tt, alive)
    path_in t (u ∷ rest) alive p = let next = pair_live t u alive p.0 in let r = path_in u rest next p.1 in
        (((i.pairs t u).1 (record { first_live = alive; second_live = next; pair = p.0 }), r.0), r.1)

    pub listed_in-state : (u : ℕ) (k : Key) (kind : Kind) → live past u ≡ true
        → lists_conflicting c.accesses u k kind ≡ has_conflicting past u k kind
    listed_in-state u k kind alive = ap (λ l. lists_conflicting l u k kind) i.accesses ∙ lists_conflicting-access_list
        (live past) u k kind past alive

    pub listed_live : (u : ℕ) (k : Key) (kind : Kind) → lists_conflicting c.accesses u k kind ≡ true → live past u ≡ true
    listed_live u k kind q = lists_conflicting-counts (live past) u k kind past
        (ap (λ l. lists_conflicting l u k kind) (sym i.accesses) ∙ q)

    pub blocks_from_closes : (t : ℕ) (k : Key) (kind : Kind) (rest : List ℕ) → live past t ≡ true → Closes past t k kind rest
        → Blocks c t k kind rest
    blocks_from_closes t k kind [] alive x = absurd (omega (arith, x.at_least_two))
    blocks_from_closes t k kind (u ∷ rest) alive x =
        let p = path_in t (u ∷ rest) alive x.pairs in
        record {
          distinct = x.distinct;
          pairs = p.0;
          rival = record {
            apart = λ e. x.distinct.0 (subst (λ v. Member v (u ∷ rest)) e (last_is_member t u rest));
            has_conflicting = listed_in-state (last_of u rest) k kind p.1 ∙ x.conflict;
          };
        }

    pub closes_from_blocks : (t : ℕ) (k : Key) (kind : Kind) (rest : List ℕ) → Blocks c t k kind rest → Closes past t k kind rest
    closes_from_blocks t k kind rest b = record {
      distinct = b.distinct;
      at_least_two = some rest b.rival.apart;
      pairs = path_map (λ a d p. ((i.pairs a d).0 p).pair) t rest b.pairs;
      conflict = sym (listed_in-state (last_of t rest) k kind (listed_live (last_of t rest) k kind b.rival.has_conflicting))
          ∙ b.rival.has_conflicting;
    }
      where
        some : (rest : List ℕ) → last_of t rest ≢ t → 0 < length rest
        some [] n = absurd (n refl)
        some (u ∷ rest) n = omega arith

    -- the value found, and its writer

    pub top-newest : (k : Key) → top c k ≡ entry_of (newest_store (live past) k past)
    top-newest k = ap (λ l. last_or None l) (i.chain k) ∙ chain-last (live past) k past

    pub found-visible : (k : Key) → found c k ≡ visible s.opening past k
    found-visible k = ap₂ top_value (top-newest k) (i.settled k) ∙ (go (newest_store (live past) k past) refl
        ∙ sym (ap (λ o. value_or o (s.opening k)) (newest-standing k)))
      where
        go : (o : Option Access) → newest_store (live past) k past ≡ o → top_value (entry_of o)
            (settled s.opening past k) ≡ value_or (option_or o (newest_store (committed past) k past)) (s.opening k)
        go None e = refl
        go (Some a) e = refl

    pub source_from : (k : Key) (u : ℕ) → SourceIs (top c k) u → IsBy (newest_store (λ t. not (aborted past t)) k past) u
    source_from k u q = subst (λ o. IsBy o u) (sym (newest-standing k))
        (go (newest_store (live past) k past) (subst (λ o. SourceIs o u) (top-newest k) q))
      where
        go : (o : Option Access) → SourceIs (entry_of o) u → IsBy (option_or o (newest_store (committed past) k past)) u
        go None q = absurd q
        go (Some a) q = q

    pub source_to : (k : Key) (u : ℕ) → live past u ≡ true → IsBy (newest_store (λ t. not (aborted past t)) k past) u → SourceIs (top c k) u
    source_to k u alive q = subst (λ o. SourceIs o u) (sym (top-newest k))
        (go (newest_store (live past) k past) (subst (λ o. IsBy o u) (newest-standing k) q))
      where
        go : (o : Option Access) → IsBy (option_or o (newest_store (committed past) k past)) u → SourceIs (entry_of o) u
        go None q = let b = is_by (newest_store (committed past) k past) u q in
            absurd (live-not_committed past u alive (subst (λ v. committed past v ≡ true) b.2
            (newest-counts (committed past) k past b.0 b.1).0))
        go (Some a) q = q

    pub source_live : (k : Key) (u : ℕ) → SourceIs (top c k) u → live past u ≡ true
    source_live k u q = go (newest_store (live past) k past) refl (subst (λ o. SourceIs o u) (top-newest k) q)
      where
        go : (o : Option Access) → newest_store (live past) k past ≡ o → SourceIs (entry_of o) u → live past u ≡ true
        go None e q = absurd q
        go (Some a) e q = subst (λ v. live past v ≡ true) q (newest-counts (live past) k past a e).0

    -- the least predecessor

    pub least_from : (t u : ℕ) → IsLeastPredecessor (PairIn c) t u → IsLeastPredecessor (LivePredecessor past) t u
    least_from t u l =
        let p = (i.pairs u t).0 l.pair in
        record {
          pair = record { is_live = p.first_live; pair = p.pair };
          least = λ v q. l.least v ((i.pairs v t).1 (record { first_live = q.is_live; second_live = p.second_live; pair = q.pair }));
        }

    pub none_from : (t : ℕ) → live past t ≡ true → HasNoPredecessor (PairIn c) t → HasNoLivePredecessor past t
    none_from t t_alive none v p = none v ((i.pairs v t).1 (record { first_live = p.is_live; second_live = t_alive; pair = p.pair }))

    -- which transactions are aborted in cascade

    -- what a standing transaction read from through others stands
    stands_back : (t : ℕ) (path : List ℕ) → PathOf (Feeds past) t path → aborted past (last_of t path) ≡ false → aborted past t ≡ false
    stands_back t [] p q = q
    stands_back t (u ∷ path) p q = source_of_standing_stands s past h u t (stands_back u path p.1 q) p.0

    -- a reader of a live transaction that stands is live
    reader_live : (t u : ℕ) → live past t ≡ true → ReadFrom past u t → aborted past u ≡ false → live past u ≡ true
    reader_live t u alive r stands = elim (status past u (precedes-started s past h t u (read-precedes past u t r)).1) [
      | inl l ↦ l
      | inr (inl c) ↦ absurd (live-not_committed past t alive (source_commits_before s past h u t c r).0)
      | inr (inr a) ↦ absurd (both_ways _ stands a)
    ]

    reads_in : (t : ℕ) (path : List ℕ) → live past t ≡ true → PathOf (Feeds past) t path → aborted past (last_of t path) ≡ false
        → PathOf (Has c.read_from) t path
    reads_in t [] alive p q = tt
    reads_in t (u ∷ path) alive p q = let next = reader_live t u alive p.0 (stands_back u path p.1 q) in
        ((i.read_from t u).1 (record { reader_live = next; source_live = alive; read = p.0 }), reads_in u path next p.1 q)

    pub falls_from : (t : ℕ) (fell : List ℕ) → live past t ≡ true → FallsIn c t fell → Falls past t fell
    falls_from t fell alive f = record {
      rising = f.rising;
      each = λ u m. let x = f.each u m in (
        sym (i.nodes u) ∙ x.0,
        x.1,
        (
          x.2.0,
          path_map {small = Has c.read_from} {large = Feeds past}
              (λ a d p. ((i.read_from a d).0 p).read) t x.2.0 x.2.1,
          x.2.2,
        ),
      );
      all = λ u alive_u n r. f.all u (i.nodes u ∙ alive_u) n
          (r.0, reads_in t r.0 alive r.1 (ap (aborted past) r.2 ∙ live-stands past u alive_u), r.2);
    }
