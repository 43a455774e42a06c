-- What a transaction that may commit got at each read: its own newest write, or else the committed value.
use Rattle.std.specs.Prelude.{◌≡◌, ◌≢◌, ℕ, Bool, true, false, not, nat_eq, List, [], ◌∷◌, ◌++◌, Option, Some, None}
use Rattle.std.proofs.Common.{refl, sym, ap, ◌∙◌, subst, inl, inr, ⊎_elim, arith}
use Rattle.std.proofs.lemmas.Bool.{or_left, both_ways, false_from_ne_true, not-true, not_from_false}
use Rattle.sgt_model.specs.declared.entry.Entry.{Entry}
use Rattle.sgt_model.specs.declared.kind.Kind.{Kind}
use Rattle.sgt_model.specs.declared.kind.Kind.TheVariants.{Look, Store}
use Rattle.sgt_model.specs.Contents.{Key}
use Rattle.sgt_model.specs.Accesses.{Access, access_of}
use Rattle.sgt_model.specs.Fates.{aborted, committed, live}
use Rattle.sgt_model.specs.Values.{stores, newest_store, value_or, settled}
use Rattle.sgt_model.specs.ReadFrom.{IsBy, LooksFrom, ReadFrom}
use Rattle.sgt_model.specs.Pairs.{conflicts, has_conflicting, FollowsIn, Precedes, Pair}
use Rattle.sgt_model.specs.Closes.{Closes}
use Rattle.sgt_model.specs.Configurations.{Configuration}
use Rattle.sgt_model.specs.Legality.{HasNoLivePredecessor, Legal}
use Rattle.sgt_model.proofs.Facts.{access-live, access-free, look-found, aborted-stays, live-stands, live-not_committed, committed-stands, committed_else, has_conflicting-started, legal_older, aborts-stay}
use Rattle.sgt_model.proofs.PairOrder.{no_pair_from_live}
use Rattle.sgt_model.proofs.Stores.{found, newest_skip, newest_append, conflicts_store, lists_conflicting_append, precedes_newest, own_or}
use Rattle.sgt_model.proofs.Sources.{source_of_standing_stands}

pub read_append : (newer older : List Entry) (t u : ℕ) → ReadFrom older t u → ReadFrom (newer ++ older) t u
read_append [] older t u h = h
read_append (e ∷ newer) older t u h = inr (read_append newer older t u h)

pub precedes_append : (newer older : List Entry) (t u : ℕ) → Precedes older t u → Precedes (newer ++ older) t u
precedes_append [] older t u h = h
precedes_append (e ∷ newer) older t u h = inr (precedes_append newer older t u h)

-- a cycle of two closes
closes_two : (past : List Entry) (t u : ℕ) (k : Key) (kind : Kind) → Pair past t u → has_conflicting past u k kind ≡ true
    → Closes past t k kind (u ∷ [])
closes_two past t u k kind pair access_list = record {
  distinct = (λ m. ⊎_elim pair.apart (λ x. x) m, (λ m. m, tt));
  at_least_two = omega arith;
  pairs = (pair, tt);
  conflict = access_list;
}

look_no_store : (q : ℕ → Bool) (k : Key) (x : Option Access) (a : Access) → x ≡ Some a → a.kind ≡ Look → stores q k x ≡ None
look_no_store q k x a h g = subst (λ y. stores q k y ≡ None) (sym h) (simp g)

module _ (s : Configuration) (newer older : List Entry) (e : Entry) (a : Access) (legal : Legal s (newer ++ e ∷ older))
    (is : access_of e ≡ Some a) (is_look : a.kind ≡ Look) (is_live : live (newer ++ e ∷ older) a.by ≡ true)
    (none_live : HasNoLivePredecessor (newer ++ e ∷ older) a.by) where
  past : List Entry
  past = newer ++ e ∷ older

  legal_here : Legal s (e ∷ older)
  legal_here = legal_older s newer (e ∷ older) legal

  reader_live : live older a.by ≡ true
  reader_live = access-live s older e.event e.reply legal_here.1 a is

  stands_here : aborted older a.by ≡ false
  stands_here = live-stands older a.by reader_live

  stands : aborted (newer ++ e ∷ older) a.by ≡ false
  stands = live-stands (newer ++ e ∷ older) a.by is_live

  below : (u : ℕ) → committed (newer ++ e ∷ older) u ≡ true → not (aborted older u) ≡ true
  below u h =
      not_from_false (aborted older u)
      (false_from_ne_true (aborted older u) (λ g. both_ways _ (committed-stands (newer ++ e ∷ older) u h)
      (aborts-stay s newer (e ∷ older) u legal (aborted-stays s e older legal_here u g))))

  -- one whose write the read returned is committed, if it is another
  others : (b : Access) → newest_store (λ u. not (aborted older u)) a.key older ≡ Some b → b.by ≢ a.by
      → committed (newer ++ e ∷ older) b.by ≡ true
  others b h n =
      let f = found (λ u. not (aborted older u)) a.key older b h in
      let from : LooksFrom older (Some a) a.by b.by = (is_look, refl, subst (λ x. IsBy x b.by) (sym h) refl) in
      let read : ReadFrom (e ∷ older) a.by b.by = inl (λ z. n (sym z), subst (λ x. LooksFrom older x a.by b.by) (sym is) from) in
      let source_stands : aborted (newer ++ e ∷ older) b.by ≡ false =
      source_of_standing_stands s (newer ++ e ∷ older) legal a.by b.by stands (read_append newer (e ∷ older) a.by b.by read) in
      let follows : FollowsIn older (Some a) b.by a.by = (refl, f.access_list a.kind) in
      let pair : Pair (newer ++ e ∷ older) b.by a.by = record {
        apart = n;
        first_stands = source_stands;
        second_stands = stands;
        precedes = precedes_append newer (e ∷ older) b.by a.by (inl (subst (λ x. FollowsIn older x b.by a.by) (sym is) follows));
      } in
      let was_started = has_conflicting-started s (newer ++ e ∷ older) legal b.by a.key Store
      (lists_conflicting_append newer (e ∷ older) b.by a.key Store (lists_conflicting_append (e ∷ []) older b.by a.key Store
      (f.access_list Store))) in
      committed_else (newer ++ e ∷ older) b.by was_started (λ l. none_live b.by (record { is_live = l; pair = pair })) source_stands

  -- where the read returned another's write, the transaction has none of its own
  first : (b : Access) → newest_store (λ u. not (aborted older u)) a.key older ≡ Some b → b.by ≢ a.by → Precedes older a.by b.by → ⊥
  first b h n before =
      let f = found (λ u. not (aborted older u)) a.key older b h in
      let pair : Pair older a.by b.by = record {
        apart = λ z. n (sym z);
        first_stands = stands_here;
        second_stands = not-true
            (aborted older b.by) f.counts;
        precedes = before;
      } in
      access-free s older e.event e.reply legal_here.1 a is (b.by ∷ []) (closes_two older a.by b.by a.key a.kind pair
      (f.access_list a.kind))

  -- no committed one wrote the key since
  none_newer : (x : Option Access) → newest_store (committed (newer ++ e ∷ older)) a.key newer ≡ x → x ≡ None
  none_newer None h = refl
  none_newer (Some c) h =
      let f = found (committed (newer ++ e ∷ older)) a.key newer c h in
      let access_list : has_conflicting (e ∷ older) a.by a.key Store ≡ true = or_left (conflicts (access_of e) a.by a.key Store)
      (has_conflicting older a.by a.key Store) (conflicts_store (access_of e) a a.key is refl) in
      let pair : Pair (newer ++ e ∷ older) a.by c.by =
      record {
        apart = λ z. live-not_committed (newer ++ e ∷ older) a.by is_live
            (subst (λ u. committed (newer ++ e ∷ older) u ≡ true) (sym z) f.counts);
        first_stands =
            stands;
        second_stands = committed-stands (newer ++ e ∷ older) c.by f.counts;
        precedes = precedes_newest
            (committed (newer ++ e ∷ older)) a.key newer (e ∷ older) c a.by h access_list;
      } in
      absurd (no_pair_from_live s (newer ++ e ∷ older) legal a.by c.by is_live f.counts pair)

  settled_older : newest_store (committed (newer ++ e ∷ older)) a.key (newer ++ e ∷ older) ≡ newest_store
      (committed (newer ++ e ∷ older)) a.key older
  settled_older =
      newest_append (committed (newer ++ e ∷ older)) a.key newer (e ∷ older)
      (none_newer (newest_store (committed (newer ++ e ∷ older)) a.key newer) refl)
      ∙ newest_skip (committed (newer ++ e ∷ older)) a.key e older (look_no_store (committed (newer ++ e ∷ older)) a.key
      (access_of e) a is is_look)

  -- each read of a transaction that may commit returned its own newest write, or else the value that is committed by then
  pub finds : a.value ≡ value_or (newest_store (λ u. nat_eq u a.by) a.key older) (settled s.opening (newer ++ e ∷ older) a.key)
  finds =
      look-found s older e.event e.reply legal_here.1 a is is_look
      ∙ (own_or (committed (newer ++ e ∷ older)) (λ u. not (aborted older u)) a.key older a.by (s.opening a.key) below
      (not_from_false (aborted older a.by) stands_here) others first
      ∙ ap (λ x. value_or (newest_store (λ u. nat_eq u a.by) a.key older) (value_or x (s.opening a.key))) (sym settled_older))
