-- The state after a read or a write is the state after the longer history.
use Rattle.std.proofs.Common.{◌≡◌, ◌≢◌, ℕ, suc, ℤ, Bool, true, false, cond, ◌&&◌, ◌⊎◌, List, [], ◌∷◌, ◌++◌, Option, Some, None, refl, sym, ap, ap₂, subst, inl, inr, ◌∙◌}
use Rattle.std.specs.Prelude.{◌↔◌}
use Rattle.std.proofs.lemmas.Bool.{cases_eq}
use Rattle.std.proofs.lemmas.List.{append-nil}
use Rattle.std.specs.Option.{option_or}
use Rattle.sgt_model.specs.declared.event.Event.TheVariants.{Step}
use Rattle.sgt_model.specs.declared.event.Event.TheVariants as event
use Rattle.sgt_model.specs.declared.event.Request.{Request}
use Rattle.sgt_model.specs.declared.reply.Reply.TheVariants as reply
use Rattle.sgt_model.specs.declared.entry.Entry.{Entry}
use Rattle.sgt_model.specs.declared.kind.Kind.{Kind}
use Rattle.sgt_model.specs.declared.kind.Kind.TheVariants.{Look, Store}
use Rattle.sgt_model.specs.Contents.{Key, key_eq}
use Rattle.sgt_model.specs.Left.{left_after}
use Rattle.sgt_model.specs.Left as left
use Rattle.sgt_model.specs.Accesses.{Access, access_of, act_in, acts}
use Rattle.sgt_model.specs.Fates.{aborted, committed, has_committed, live}
use Rattle.sgt_model.specs.Values.{newest_store, value_or}
use Rattle.sgt_model.specs.Pairs.{FollowsIn, Precedes, has_conflicting}
use Rattle.sgt_model.specs.Configurations.{Configuration}
use Rattle.sgt_model.specs.Progress.{call_of, reads, made}
use Rattle.sgt_model.specs.Legality.{Legal}
use Rattle.sgt_model.specs.AccessList.{listed_in, access_list}
use Rattle.sgt_model.specs.Chains.{chain_of, store_into, write_last}
use Rattle.sgt_model.specs.LiveLeft.{left_of_call, left_of}
use Rattle.sgt_model.specs.State.{Has, State}
use Rattle.sgt_model.specs.StateAfter.{IsStateAfter, LivePair, LiveRead}
use Rattle.sgt_model.specs.Blocks.{IsRival}
use Rattle.sgt_model.specs.Found.{found}
use Rattle.sgt_model.specs.Changes.{LooksAt, Notes, StoresInto}
use Rattle.sgt_model.proofs.Facts.{live-no_fate, live-stands}
use Rattle.sgt_model.proofs.Plays.{act_own, act_other}
use Rattle.sgt_model.proofs.LiveLeft.{left_by}
use Rattle.sgt_model.proofs.Verdict.{source_from, source_live, source_to, listed_in-state, listed_live}

-- the entry of a read that was made
abbrev pub look_entry : ℕ → Key → Option ℤ → Entry
look_entry t k v = record { event = Step t; reply = reply.Looked k v }

-- the entry of a write that was made
abbrev pub store_entry : ℕ → Key → Option ℤ → Entry
store_entry t k v = record { event = Step t; reply = reply.Wrote k v }

-- the accesses of another, and of t

acts_other : (a : Access) (u : ℕ) (l : List Access) → u ≢ a.by → act_in (Some a) u l ≡ l
acts_other a u l n = act_other (Some a) a u l refl (λ z. n (sym z))

acts_own : (a : Access) (u : ℕ) (l : List Access) → u ≡ a.by → act_in (Some a) u l ≡ a ∷ l
acts_own a u l e = act_own (Some a) a u l refl (sym e)

module _ (s : Configuration) (past : List Entry) (h : Legal s past) (before after : State) (i : IsStateAfter s past before) (t : ℕ)
    (k : Key) (alive : live past t ≡ true) where
  -- the edges, after an access
  pairs_after : (kind : Kind) (e : Entry) → ((u : ℕ) → live (e ∷ past) u ≡ live past u)
      → ((u : ℕ) → aborted (e ∷ past) u ≡ aborted past u)
      → ((u v : ℕ) → FollowsIn past (access_of e) u v ↔ ((t ≡ v) × (has_conflicting past u k kind ≡ true)))
      → Notes t k kind before after → (u v : ℕ) → (after.pairs u v ≡ true) ↔ LivePair (e ∷ past) u v
  pairs_after kind e same_live same_aborted follows n u v =
      (λ q. elim ((n.pairs u v).0 q) [ inl old ↦ old_to old | inr new ↦ new_to new.0 new.1 ], λ q. (n.pairs u v).1 (from q q.pair.precedes))
    where
      old_to : before.pairs u v ≡ true → LivePair (e ∷ past) u v
      old_to q = let p = (i.pairs u v).0 q in record {
        first_live = same_live u ∙ p.first_live;
        second_live = same_live v
            ∙ p.second_live;
        pair = record {
          apart = p.pair.apart;
          first_stands = same_aborted u ∙ p.pair.first_stands;
          second_stands = same_aborted v ∙ p.pair.second_stands;
          precedes = inr p.pair.precedes;
        };
      }

      new_to : v ≡ t → IsRival before t k kind u → LivePair (e ∷ past) u v
      new_to is_t r =
          let u_live = listed_live s past h before i u k kind r.has_conflicting in
          let v_live : live past v ≡ true = ap (live past) is_t ∙ alive in
          record {
            first_live = same_live u ∙ u_live;
            second_live = same_live v ∙ v_live;
            pair = record {
              apart = λ z. r.apart (z ∙ is_t);
              first_stands = same_aborted u ∙ live-stands past u u_live;
              second_stands = same_aborted v ∙ live-stands past v v_live;
              precedes = inl ((follows u v).1 (sym is_t, sym (listed_in-state s past h before i u k kind u_live) ∙ r.has_conflicting));
            };
          }

      from : LivePair (e ∷ past) u v → Precedes (e ∷ past) u v → (before.pairs u v ≡ true) ⊎ ((v ≡ t) × IsRival before t k kind u)
      from q (inl now) = let f = (follows u v).0 now in
          inr (
            sym f.0,
            record {
              apart = λ z. q.pair.apart (z ∙ f.0);
              has_conflicting = listed_in-state s past h before i u k kind
                  (sym (same_live u) ∙ q.first_live) ∙ f.1;
            },
          )
      from q (inr p) =
          inl ((i.pairs u v).1 (record {
            first_live = sym (same_live u) ∙ q.first_live;
            second_live = sym (same_live v)
                ∙ q.second_live;
            pair = record {
              apart = q.pair.apart;
              first_stands = sym (same_aborted u) ∙ q.pair.first_stands;
              second_stands = sym (same_aborted v) ∙ q.pair.second_stands;
              precedes = p;
            };
          }))

  accesses_after : (kind : Kind) (value : Option ℤ) → Notes t k kind before after → after.accesses ≡ access_list
      (live past) past ++ listed_in (live past) (Some (record { by = t; key = k; kind = kind; value = value }))
  accesses_after kind value n = n.accesses ∙ ap₂ (λ l b. l ++ cond b (record { by = t; key = k; kind = kind } ∷ []) []) i.accesses
      (sym alive)

  not_committed : committed past t ≡ false
  not_committed = ap has_committed (live-no_fate past t alive)

  -- how the remainder goes on: after the read or write that is next, or after one that the caller requests at the end
  abbrev pub LookGoes : Type 0
  LookGoes = (v : Option ℤ) → left_after (left_of_call s.rules (call_of past t)) (reads past t ++ v ∷ []) (suc (made past t))
      ≡ left.after_look v (left_of s.rules past t)

  abbrev pub StoreGoes : Type 0
  StoreGoes = left_after (left_of_call s.rules (call_of past t)) (reads past t) (suc (made past t))
      ≡ left.after_store (left_of s.rules past t)

  pub after_look : LookGoes → LooksAt t k before after → IsStateAfter s (look_entry t k (found before k) ∷ past) after
  after_look goes l = record {
    lives = l.notes.live ∙ i.lives;
    nodes = λ u. l.notes.nodes u ∙ i.nodes u;
    pairs = pairs_after Look (look_entry t k (found before k)) (λ u. refl) (λ u. refl) (λ u v. ((λ x. x), (λ x. x))) l.notes;
    accesses = accesses_after Look (found before k) l.notes;
    chain = λ j. l.chain j ∙ i.chain j;
    settled = λ j. l.notes.settled j ∙ i.settled j;
    read_from = λ u v. (to u v, from u v);
    fates = λ u. l.notes.fates u ∙ i.fates u;
    start_count = l.notes.start_count ∙ i.start_count;
    left = λ u u_live. elim (cases_eq u t) [ inl e ↦ own u e u_live | inr n ↦ other u n u_live ];
  }
    where
      a : Access
      a = record { by = t; key = k; kind = Look; value = found before k }

      to : (u v : ℕ) → Has after.read_from u v → LiveRead (look_entry t k (found before k) ∷ past) v u
      to u v q = elim ((l.read_from u v).0 q) [
        | inl old ↦ (let p = (i.read_from u v).0 old in
            record { reader_live = p.reader_live; source_live = p.source_live; read = inr p.read })
        | inr new ↦ record {
          reader_live = ap (live past) new.0 ∙ alive;
          source_live = source_live s past h before i k u new.2;
          read = inl ((λ z. new.1 (sym z ∙ new.0)), (refl, sym new.0, source_from s past h before i k u new.2));
        }
      ]

      from : (u v : ℕ) → LiveRead (look_entry t k (found before k) ∷ past) v u → Has after.read_from u v
      from u v q =
          (l.read_from u v).1
          (elim q.read [
            | inl now ↦ inr (
              sym now.1.1,
              (λ z. now.0 (sym (z ∙ now.1.1))),
              source_to s past h before i k u q.source_live now.1.2,
            )
            | inr old ↦ inl ((i.read_from u v).1 (record { reader_live = q.reader_live; source_live = q.source_live; read = old }))
          ])

      other : (u : ℕ) → u ≢ t → live past u ≡ true → after.left u ≡ left_of s.rules (look_entry t k (found before k) ∷ past) u
      other u n u_live =
          let same = sym (acts_other a u (acts past u) n) in
          l.notes.left u n ∙ (i.left u u_live ∙ ap (left_by s (call_of past u)) same)

      own : (u : ℕ) → u ≡ t → live past u ≡ true → after.left u ≡ left_of s.rules (look_entry t k (found before k) ∷ past) u
      own u e u_live =
          let more = sym (acts_own a u (acts past u) e) in
          let was : before.left t ≡ left_of s.rules past u = ap before.left (sym e) ∙ i.left u u_live in
          let on : left_after (left_of_call s.rules (call_of past u)) (reads past u ++ found before k ∷ []) (suc (made past u))
          ≡ left.after_look (found before k) (left_of s.rules past u) = subst (λ w. left_after (left_of_call s.rules (call_of past w))
          (reads past w ++ found before k ∷ []) (suc (made past w)) ≡ left.after_look (found before k) (left_of s.rules past w)) (sym e)
          (goes (found before k)) in
          ap after.left e
          ∙ (l.own_left ∙ (ap (left.after_look (found before k)) was ∙ (sym on ∙ ap (left_by s (call_of past u)) more)))

  stored_chain : (b : Bool) (v : Option ℤ) (c : List (ℕ × Option ℤ)) → cond b (write_last t v c) c ≡ store_into
      (cond (b && true) (Some (record { by = t; key = k; kind = Store; value = v })) None) c
  stored_chain true v c = refl
  stored_chain false v c = refl

  not_settled : (b : Bool) (a : Access) (n : Option Access) → option_or (cond (b && false) (Some a) None) n ≡ n
  not_settled true a n = refl
  not_settled false a n = refl

  pub after_store : (v : Option ℤ) → StoreGoes → StoresInto t k v before after → IsStateAfter s (store_entry t k v ∷ past) after
  after_store w goes l = record {
    lives = l.notes.live ∙ i.lives;
    nodes = λ u. l.notes.nodes u ∙ i.nodes u;
    pairs = pairs_after Store (store_entry t k w) (λ u. refl) (λ u. refl) (λ u v. ((λ x. x), (λ x. x))) l.notes;
    accesses = accesses_after Store w l.notes;
    chain = λ j. l.chain j ∙ (ap (λ c. cond (key_eq k j) (write_last t w c) c) (i.chain j)
        ∙ (stored_chain (key_eq k j) w (chain_of (live past) j past)
        ∙ ap (λ b. store_into (cond (key_eq k j && b) (Some (record { by = t; key = k; kind = Store; value = w })) None)
        (chain_of (live past) j past)) (sym alive)));
    settled = λ j. l.notes.settled j
        ∙ (i.settled j ∙ ap (λ o. value_or o (s.opening j))
        (sym (ap (λ b. option_or (cond (key_eq k j && b) (Some (record { by = t; key = k; kind = Store; value = w })) None)
        (newest_store (committed past) j past)) not_committed ∙ not_settled (key_eq k j)
        (record { by = t; key = k; kind = Store; value = w }) (newest_store (committed past) j past))));
    read_from = λ u v. (to u v, from u v);
    fates = λ u. l.notes.fates u ∙ i.fates u;
    start_count = l.notes.start_count ∙ i.start_count;
    left = λ u u_live. elim (cases_eq u t) [ inl e ↦ own u e u_live | inr n ↦ other u n u_live ];
  }
    where
      a : Access
      a = record { by = t; key = k; kind = Store; value = w }

      to : (u v : ℕ) → Has after.read_from u v → LiveRead (store_entry t k w ∷ past) v u
      to u v q = let p = (i.read_from u v).0 ((l.read_from u v).0 q) in
          record { reader_live = p.reader_live; source_live = p.source_live; read = inr p.read }

      from : (u v : ℕ) → LiveRead (store_entry t k w ∷ past) v u → Has after.read_from u v
      from u v q =
          (l.read_from u v).1 (elim q.read [
            | inl now ↦ absurd (is_no_look now.1.0)
            | inr old ↦ (i.read_from u v).1 (record { reader_live = q.reader_live; source_live = q.source_live; read = old })
          ])
        where
          is_no_look : Store ≡ Look → ⊥
          is_no_look z = cc

      other : (u : ℕ) → u ≢ t → live past u ≡ true → after.left u ≡ left_of s.rules (store_entry t k w ∷ past) u
      other u n u_live =
          let same = sym (acts_other a u (acts past u) n) in
          l.notes.left u n ∙ (i.left u u_live ∙ ap (left_by s (call_of past u)) same)

      own : (u : ℕ) → u ≡ t → live past u ≡ true → after.left u ≡ left_of s.rules (store_entry t k w ∷ past) u
      own u e u_live =
          let more = sym (acts_own a u (acts past u) e) in
          let was : before.left t ≡ left_of s.rules past u = ap before.left (sym e) ∙ i.left u u_live in
          let on : left_after (left_of_call s.rules (call_of past u)) (reads past u) (suc (made past u)) ≡ left.after_store
          (left_of s.rules past u) = subst (λ v. left_after (left_of_call s.rules (call_of past v)) (reads past v) (suc (made past v))
          ≡ left.after_store (left_of s.rules past v)) (sym e) goes in
          ap after.left e
          ∙ (l.own_left ∙ (ap left.after_store was ∙ (sym on
          ∙ (ap (λ values. left.left_after (left_of_call s.rules (call_of past u)) values (suc (made past u)))
          (sym (append-nil (reads past u))) ∙ ap (left_by s (call_of past u)) more))))

-- the state knows only the access, and not whether the procedure wanted it or the caller requested it

pub look_requested : (s : Configuration) (past : List Entry) (t : ℕ) (d : Request) (k : Key) (v : Option ℤ) (c : State)
    → IsStateAfter s (look_entry t k v ∷ past) c → IsStateAfter s (record { event = event.Access t d; reply = reply.Looked k v } ∷ past) c
look_requested s past t d k v c x = record {
  lives = x.lives;
  nodes = x.nodes;
  pairs = λ a b. let p = x.pairs a b in (
    (λ q. let r = p.0 q in record {
      first_live = r.first_live;
      second_live = r.second_live;
      pair = record {
        apart = r.pair.apart;
        first_stands = r.pair.first_stands;
        second_stands = r.pair.second_stands;
        precedes = r.pair.precedes;
      };
    }),
    (λ r. p.1 (record {
      first_live = r.first_live;
      second_live = r.second_live;
      pair = record {
        apart = r.pair.apart;
        first_stands = r.pair.first_stands;
        second_stands = r.pair.second_stands;
        precedes = r.pair.precedes;
      };
    })),
  );
  accesses = x.accesses;
  chain = x.chain;
  settled = x.settled;
  read_from = λ a b. let p = x.read_from a b in (
    (λ q. let r = p.0 q in record { reader_live = r.reader_live; source_live = r.source_live; read = r.read }),
    (λ r. p.1 (record { reader_live = r.reader_live; source_live = r.source_live; read = r.read })),
  );
  fates = x.fates;
  start_count = x.start_count;
  left = x.left;
}

pub store_requested : (s : Configuration) (past : List Entry) (t : ℕ) (d : Request) (k : Key) (v : Option ℤ) (c : State)
    → IsStateAfter s (store_entry t k v ∷ past) c → IsStateAfter s (record { event = event.Access t d; reply = reply.Wrote k v } ∷ past) c
store_requested s past t d k v c x = record {
  lives = x.lives;
  nodes = x.nodes;
  pairs = λ a b. let p = x.pairs a b in (
    (λ q. let r = p.0 q in record {
      first_live = r.first_live;
      second_live = r.second_live;
      pair = record {
        apart = r.pair.apart;
        first_stands = r.pair.first_stands;
        second_stands = r.pair.second_stands;
        precedes = r.pair.precedes;
      };
    }),
    (λ r. p.1 (record {
      first_live = r.first_live;
      second_live = r.second_live;
      pair = record {
        apart = r.pair.apart;
        first_stands = r.pair.first_stands;
        second_stands = r.pair.second_stands;
        precedes = r.pair.precedes;
      };
    })),
  );
  accesses = x.accesses;
  chain = x.chain;
  settled = x.settled;
  read_from = λ a b. let p = x.read_from a b in (
    (λ q. let r = p.0 q in record { reader_live = r.reader_live; source_live = r.source_live; read = r.read }),
    (λ r. p.1 (record { reader_live = r.reader_live; source_live = r.source_live; read = r.read })),
  );
  fates = x.fates;
  start_count = x.start_count;
  left = x.left;
}
