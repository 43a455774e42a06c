-- The state after an entry that ends some transactions, or nothing, is the state after the longer history.
use Rattle.std.proofs.Common.{◌≡◌, ℕ, ◌+◌, ℤ, Bool, true, false, cond, not, ◌&&◌, ◌||◌, List, [], ◌∷◌, ◌++◌, Option, Some, None, is_none, nat_eq, nat_lt, refl, sym, ap, ap₂, subst, inl, inr, ◌∙◌}
use Rattle.std.proofs.Math.Path.{fun_ext}
use Rattle.std.proofs.lemmas.Bool.{and_from, and_parts, eqb-true, not-true}
use Rattle.std.proofs.lemmas.List.{append-nil}
use Rattle.std.specs.List.{list_any, filter}
use Rattle.std.specs.Option.{option_or, unwrap_or}
use Rattle.sgt_model.specs.declared.reply.Cause.TheVariants as cause
use Rattle.sgt_model.specs.declared.reply.Reply.{Reply}
use Rattle.sgt_model.specs.declared.event.Event.{Event}
use Rattle.sgt_model.specs.declared.event.Event.TheVariants.{Step, Commit, Quit}
use Rattle.sgt_model.specs.declared.event.Event.TheVariants as event
use Rattle.sgt_model.specs.declared.event.Request.{Request}
use Rattle.sgt_model.specs.declared.reply.Reply.TheVariants as reply
use Rattle.sgt_model.specs.declared.reply.Cause.{Cause}
use Rattle.sgt_model.specs.declared.reply.Fate.{Fate}
use Rattle.sgt_model.specs.declared.reply.Fate.TheVariants as fate
use Rattle.sgt_model.specs.declared.entry.Entry.{Entry}
use Rattle.sgt_model.specs.Contents.{Key}
use Rattle.sgt_model.specs.Accesses.{Access, access_of, acts, access_in}
use Rattle.sgt_model.specs.Fates.{aborted, started_ones, committed, concerns, ending_in, fate_of, has_aborted, has_committed, is_start, live, live_ones, start_count, subject}
use Rattle.sgt_model.specs.Values.{newest_store, settled, stores, value_or}
use Rattle.sgt_model.specs.ReadFrom.{ReadFrom}
use Rattle.sgt_model.specs.Pairs.{Precedes}
use Rattle.sgt_model.specs.Configurations.{Configuration}
use Rattle.sgt_model.specs.Progress.{call_in, call_of}
use Rattle.sgt_model.specs.Legality.{Legal}
use Rattle.sgt_model.specs.AccessList.{listed_in, access_list}
use Rattle.sgt_model.specs.Chains.{chain_of, store_into, value_in}
use Rattle.sgt_model.specs.LiveLeft.{left_of}
use Rattle.sgt_model.specs.State.{Has, State}
use Rattle.sgt_model.specs.StateAfter.{IsStateAfter, LivePair, LiveRead}
use Rattle.sgt_model.specs.Changes.{Drops, Removes, Settles}
use Rattle.sgt_model.proofs.Facts.{follows-access, live-no_fate, live-stands}
use Rattle.sgt_model.proofs.Sources.{looks-access}
use Rattle.sgt_model.proofs.Plays.{act_none}
use Rattle.sgt_model.proofs.Counted.{chain-removed, filter-both, filter-same, access_list-removed}
use Rattle.sgt_model.proofs.Chains.{chain-value, newest-split, stored_value}
use Rattle.sgt_model.proofs.Verdict.{live_before_committed}
use Rattle.sgt_model.proofs.LiveLeft.{left_by}

-- an entry that ends those that are gone, and does nothing else
pub record EndsAll (gone : ℕ → Bool) (e : Entry) (past : List Entry) : Type 0 where
  pub no_start : is_start e.reply ≡ false
  pub no_access : access_of e ≡ None
  pub no_call : (u : ℕ) → call_in e.event e.reply u ≡ None
  pub stays : (u : ℕ) → gone u ≡ false → ending_in e.event e.reply u ≡ None
  pub ends : (u : ℕ) → gone u ≡ true → (f : Fate) × (ending_in e.event e.reply u ≡ Some f)

module _ (s : Configuration) (past : List Entry) (gone : ℕ → Bool) (e : Entry) (x : EndsAll gone e past) where
  fate_stays : (u : ℕ) → gone u ≡ false → fate_of (e ∷ past) u ≡ fate_of past u
  fate_stays u g = ap (λ o. option_or o (fate_of past u)) (x.stays u g)

  starts_same : start_count (e ∷ past) ≡ start_count past
  starts_same = ap (λ b. cond b (start_count past + 1) (start_count past)) x.no_start

  pub live_after : (u : ℕ) → live (e ∷ past) u ≡ (live past u && not (gone u))
  live_after u = ap (λ n. nat_lt u n && is_none (fate_of (e ∷ past) u)) starts_same ∙ go (gone u) refl
    where
      and_true : (a : Bool) → a ≡ (a && true)
      and_true true = refl
      and_true false = refl

      and_false : (a b : Bool) → (a && false) ≡ ((a && b) && false)
      and_false true true = refl
      and_false true false = refl
      and_false false b = refl

      go : (b : Bool) → gone u ≡ b → (nat_lt u (start_count past) && is_none (fate_of (e ∷ past) u)) ≡ (live past u && not b)
      go false g = ap (λ o. nat_lt u (start_count past) && is_none o) (fate_stays u g) ∙ and_true (live past u)
      go true g = let f = x.ends u g in ap (λ o. nat_lt u (start_count past) && is_none (option_or o (fate_of past u))) f.1
          ∙ and_false (nat_lt u (start_count past)) (is_none (fate_of past u))

  live_was : (u : ℕ) → live (e ∷ past) u ≡ true → (live past u ≡ true) × (gone u ≡ false)
  live_was u q = let p = and_parts (live past u) (not (gone u)) (sym (live_after u) ∙ q) in (p.0, not-true (gone u) p.1)

  live_stays : (u : ℕ) → live past u ≡ true → gone u ≡ false → live (e ∷ past) u ≡ true
  live_stays u l g = live_after u ∙ and_from (live past u) (not (gone u)) l (ap not g)

  aborted_stays : (u : ℕ) → gone u ≡ false → aborted (e ∷ past) u ≡ aborted past u
  aborted_stays u g = ap has_aborted (fate_stays u g)

  precedes_was : (u v : ℕ) → Precedes (e ∷ past) u v → Precedes past u v
  precedes_was u v (inl now) = absurd (let f = follows-access past (access_of e) u v now in no_some f.access (sym x.no_access ∙ f.is))
    where
      no_some : (a : Access) → None ≡ Some a → ⊥
      no_some a q = cc
  precedes_was u v (inr p) = p

  read_was : (t u : ℕ) → ReadFrom (e ∷ past) t u → ReadFrom past t u
  read_was t u (inl now) = absurd (let f = looks-access past (access_of e) t u now.1 in no_some f.access (sym x.no_access ∙ f.is))
    where
      no_some : (a : Access) → None ≡ Some a → ⊥
      no_some a q = cc
  read_was t u (inr r) = r

  left_same : (u : ℕ) → left_of s.rules past u ≡ left_of s.rules (e ∷ past) u
  left_same u = ap₂ (left_by s) call accesses
    where
      call : call_of past u ≡ call_of (e ∷ past) u
      call = sym (ap (λ o. unwrap_or o (call_of past u)) (x.no_call u))

      accesses : acts past u ≡ acts (e ∷ past) u
      accesses = sym (act_none (access_of e) u (acts past u) x.no_access)

  pub after_end : (before after : State) → IsStateAfter s past before → Removes gone before after
      → ((k : Key) → after.settled k ≡ settled s.opening (e ∷ past) k) → ((u : ℕ) → after.fates u ≡ fate_of (e ∷ past) u)
      → IsStateAfter s (e ∷ past) after
  after_end before after i r same_settled same_fates = record {
    lives = r.live ∙ (ap (filter (λ u. not (gone u))) i.lives ∙ live_ones_after);
    nodes = λ u. r.nodes u ∙ (ap (λ b. b && not (gone u)) (i.nodes u) ∙ sym (live_after u));
    pairs = λ u v. (pairs_to u v, pairs_from u v);
    accesses = r.accesses ∙ (ap (filter (λ a. not (gone a.by))) i.accesses ∙ (sym (access_list-removed (live past) gone past)
        ∙ (ap (λ q. access_list q past) live_is
        ∙ sym (ap (λ o. access_list (live (e ∷ past)) past ++ listed_in (live (e ∷ past)) o) x.no_access
        ∙ append-nil (access_list (live (e ∷ past)) past)))));
    chain = λ k. r.chain k ∙ (ap (filter (λ w. not (gone w.0))) (i.chain k) ∙ (sym (chain-removed gone (live past) k past)
        ∙ (ap (λ q. chain_of q k past) live_is
        ∙ sym (ap (λ o. store_into (stores (live (e ∷ past)) k o) (chain_of (live (e ∷ past)) k past)) x.no_access))));
    settled = same_settled;
    read_from = λ u v. (read_to u v, read_from u v);
    fates = same_fates;
    start_count = r.start_count ∙ (i.start_count ∙ sym starts_same);
    left = λ u q. let w = live_was u q in r.left u w.1 ∙ (i.left u w.0 ∙ left_same u);
  }
    where
      live_ones_after : filter (λ u. not (gone u)) (live_ones past) ≡ live_ones (e ∷ past)
      live_ones_after = filter-both (λ u. not (gone u)) (live past) (started_ones past)
          ∙ (filter-same _ _ (started_ones past) (λ u. sym (live_after u)) ∙ ap (filter (live (e ∷ past)))
          (sym (ap (λ b. cond b (started_ones past ++ start_count past ∷ []) (started_ones past)) x.no_start)))

      live_is : (λ u. live past u && not (gone u)) ≡ live (e ∷ past)
      live_is = fun_ext (λ u. sym (live_after u))

      pairs_to : (u v : ℕ) → after.pairs u v ≡ true → LivePair (e ∷ past) u v
      pairs_to u v q =
          let p = and_parts (before.pairs u v) (not (gone u) && not (gone v)) (sym (r.pairs u v) ∙ q) in
          let g = and_parts (not (gone u)) (not (gone v)) p.1 in
          let gu = not-true (gone u) g.0 in
          let gv = not-true (gone v) g.1 in
          let l = (i.pairs u v).0 p.0 in
          record {
            first_live = live_stays u l.first_live gu;
            second_live = live_stays v l.second_live gv;
            pair = record {
              apart = l.pair.apart;
              first_stands = aborted_stays u gu ∙ l.pair.first_stands;
              second_stands = aborted_stays v gv ∙ l.pair.second_stands;
              precedes = inr l.pair.precedes;
            };
          }

      pairs_from : (u v : ℕ) → LivePair (e ∷ past) u v → after.pairs u v ≡ true
      pairs_from u v q =
          let lu = live_was u q.first_live in
          let lv = live_was v q.second_live in
          r.pairs u v ∙ and_from (before.pairs u v) (not (gone u) && not (gone v))
          ((i.pairs u v).1
          (record {
            first_live = lu.0;
            second_live = lv.0;
            pair = record {
              apart = q.pair.apart;
              first_stands = live-stands past u lu.0;
              second_stands = live-stands past v lv.0;
              precedes = precedes_was u v q.pair.precedes;
            };
          })) (and_from (not (gone u)) (not (gone v)) (ap not lu.1) (ap not lv.1))

      read_to : (u v : ℕ) → Has after.read_from u v → LiveRead (e ∷ past) v u
      read_to u v q = let p = (r.read_from u v).0 q in let l = (i.read_from u v).0 p.0 in
          record { reader_live = live_stays v l.reader_live p.2; source_live = live_stays u l.source_live p.1; read = inr l.read }

      read_from : (u v : ℕ) → LiveRead (e ∷ past) v u → Has after.read_from u v
      read_from u v q =
          let lv = live_was v q.reader_live in
          let lu = live_was u q.source_live in
          (r.read_from u v).1 (
            (i.read_from u v).1 (record { reader_live = lv.0; source_live = lu.0; read = read_was v u q.read }),
            lu.1,
            lv.1,
          )

-- none is gone
abbrev pub no_one : ℕ → Bool
no_one u = false

filter_all : {X : Type 0} (xs : List X) → xs ≡ filter (λ x. true) xs
filter_all [] = refl
filter_all (x ∷ xs) = ap (λ l. x ∷ l) (filter_all xs)

and_true : (a : Bool) → a ≡ (a && true)
and_true true = refl
and_true false = refl

removes_none : (c : State) → Removes no_one c c
removes_none c = record {
  live = filter_all c.live;
  nodes = λ u. and_true (c.nodes u);
  pairs = λ u v. and_true (c.pairs u v);
  accesses = filter_all c.accesses;
  chain = λ k. filter_all (c.chain k);
  read_from = λ u v. ((λ q. (q, refl, refl)), (λ q. q.0));
  start_count = refl;
  left = λ u g. refl;
}

pub after_nothing : (s : Configuration) (past : List Entry) (e : Entry) (c : State) → EndsAll no_one e past → IsStateAfter s past c
    → IsStateAfter s (e ∷ past) c
after_nothing s past e c x i = after_end s past no_one e x c c i (removes_none c)
    (λ k. i.settled k ∙ sym (ap₂ (λ o q. value_or (option_or o (newest_store q k past)) (s.opening k))
    (ap (stores (committed (e ∷ past)) k) x.no_access) (fun_ext (λ u. ap has_committed (same u))))) (λ u. i.fates u ∙ sym (same u))
  where
    same : (u : ℕ) → fate_of (e ∷ past) u ≡ fate_of past u
    same u = ap (λ o. option_or o (fate_of past u)) (x.stays u refl)

-- the entry of a commit
abbrev pub commit_entry : ℕ → List ℤ → Entry
commit_entry t answers = record { event = Commit t; reply = reply.Committed answers }

commit_ends : (t : ℕ) (answers : List ℤ) (past : List Entry) → EndsAll (λ u. nat_eq t u) (commit_entry t answers) past
commit_ends t answers past = record {
  no_start = refl;
  no_access = refl;
  no_call = λ u. refl;
  stays = λ u g. ap (λ b. cond b (Some fate.Committed) None) g;
  ends = λ u g. (fate.Committed, ap (λ b. cond b (Some fate.Committed) None) g);
}

fate_now : (b : Bool) (x : Fate) (o : Option Fate) → cond b (Some x) o ≡ option_or (cond b (Some x) None) o
fate_now true x o = refl
fate_now false x o = refl

committed_now : (b : Bool) (o : Option Fate) → has_committed (option_or (cond b (Some fate.Committed) None) o) ≡ (b || has_committed o)
committed_now true o = refl
committed_now false o = refl

pub after_commit : (s : Configuration) (past : List Entry) → Legal s past → (t : ℕ) (answers : List ℤ) (before after : State)
    → live past t ≡ true → IsStateAfter s past before → Settles t before after → IsStateAfter s (commit_entry t answers ∷ past) after
after_commit s past h t answers before after alive i x = after_end s past (λ u. nat_eq t u) (commit_entry t answers)
    (commit_ends t answers past) before after i x.removes settles
    (λ u. x.fates u ∙ (ap (cond (nat_eq t u) (Some fate.Committed)) (i.fates u) ∙ fate_now (nat_eq t u) fate.Committed (fate_of past u)))
  where
    value_split : (k : Key) (np nq : Option Access) → newest_store (λ u. nat_eq t u) k past ≡ np → unwrap_or (stored_value np)
        (value_or nq (s.opening k)) ≡ value_or (option_or np nq) (s.opening k)
    value_split k None nq e = refl
    value_split k (Some a) nq e = refl

    settles : (k : Key) → after.settled k ≡ settled s.opening (commit_entry t answers ∷ past) k
    settles k =
        let own = ap (value_in t) (i.chain k) ∙ chain-value (live past) t k past alive in
        let split = newest-split (λ u. nat_eq t u) (committed past) k past (λ a u is c p. live_before_committed s past h t u alive c
        (subst (λ v. Precedes past v u) (sym (eqb-true t a is)) p)) in
        x.settled k
        ∙ (ap₂ unwrap_or own (i.settled k)
        ∙ (value_split k (newest_store (λ u. nat_eq t u) k past) (newest_store (committed past) k past) refl
        ∙ (ap (λ o. value_or o (s.opening k)) (sym split) ∙ ap (λ q. value_or (newest_store q k past) (s.opening k))
        (fun_ext (λ u. sym (committed_now (nat_eq t u) (fate_of past u)))))))

-- a `Step` or a `Quit` of t
pub record Of (event : Event) (t : ℕ) : Type 0 where
  pub concerns : (u : ℕ) → concerns event u ≡ nat_eq t u
  pub subject : subject event ≡ t

pub of_step : (t : ℕ) → Of (Step t) t
of_step t = record { concerns = λ u. refl; subject = refl }

pub of_request : (t : ℕ) (d : Request) → Of (event.Access t d) t
of_request t d = record { concerns = λ u. refl; subject = refl }

pub of_quit : (t : ℕ) → Of (Quit t) t
of_quit t = record { concerns = λ u. refl; subject = refl }

-- t and those aborted in cascade with it
abbrev pub gone_with : ℕ → List ℕ → ℕ → Bool
gone_with t fell u = nat_eq t u || list_any (λ v. nat_eq v u) fell

-- the event with its reply undoes t for this cause, with those aborted in cascade, and does nothing else
pub record UndoneBy (event : Event) (r : Reply) (t : ℕ) (why : Cause) (fell : List ℕ) : Type 0 where
  pub no_start : is_start r ≡ false
  pub no_access : access_in event r ≡ None
  pub no_call : (u : ℕ) → call_in event r u ≡ None
  pub ends : (u : ℕ) → ending_in event r u ≡ cond (nat_eq t u) (Some (fate.Aborted why))
      (cond (list_any (λ v. nat_eq v u) fell) (Some (fate.Fell t)) None)

-- so does an Aborted reply
pub aborted_so : (event : Event) (t : ℕ) (why : Cause) (fell : List ℕ) → Of event t → UndoneBy event (reply.Aborted why fell) t why fell
aborted_so event t why fell o = record {
  no_start = refl;
  no_access = refl;
  no_call = λ u. refl;
  ends = λ u. ap₂ (λ b v. cond b (Some (fate.Aborted why)) (cond (list_any (λ w. nat_eq w u) fell) (Some (fate.Fell v)) None))
      (o.concerns u) o.subject;
}

-- and so does a Refused one
pub refused_so : (t code : ℕ) (fell : List ℕ) → UndoneBy (Commit t) (reply.Refused code fell) t (cause.Asked code) fell
refused_so t code fell = record { no_start = refl; no_access = refl; no_call = λ u. refl; ends = λ u. refl }

undo_ends : (event : Event) (r : Reply) (t : ℕ) (why : Cause) (fell : List ℕ) (past : List Entry) → UndoneBy event r t why fell
    → EndsAll (gone_with t fell) (record { event = event; reply = r }) past
undo_ends event r t why fell past x = record {
  no_start = x.no_start;
  no_access = x.no_access;
  no_call = x.no_call;
  stays = λ u g. x.ends u ∙ none (nat_eq t u) (list_any (λ v. nat_eq v u) fell) g;
  ends = λ u g. let f = some (nat_eq t u) (list_any (λ v. nat_eq v u) fell) g in (f.0, x.ends u ∙ f.1);
}
  where
    none : (b d : Bool) → (b || d) ≡ false → cond b (Some (fate.Aborted why)) (cond d (Some (fate.Fell t)) None) ≡ None
    none true d g = absurd (cc)
    none false true g = absurd (cc)
    none false false g = refl

    some : (b d : Bool) → (b || d) ≡ true → (f : Fate) × (cond b (Some (fate.Aborted why)) (cond d (Some (fate.Fell t)) None) ≡ Some f)
    some true d g = (fate.Aborted why, refl)
    some false true g = (fate.Fell t, refl)
    some false false g = absurd (cc)

pub after_undo : (s : Configuration) (past : List Entry) (event : Event) (t : ℕ) (why : Cause) (fell : List ℕ) (r : Reply)
    → UndoneBy event r t why fell → (before after : State) → ((u : ℕ) → gone_with t fell u ≡ true → live past u ≡ true)
    → IsStateAfter s past before → Drops t why fell before after → IsStateAfter s (record { event = event; reply = r } ∷ past) after
after_undo s past event t why fell r undone before after lived i x =
    after_end s past (gone_with t fell) e (undo_ends event r t why fell past undone) before after i x.removes settles
    (λ u. x.fates u
    ∙ (ap (λ (f : Option Fate). cond (nat_eq t u) (Some (fate.Aborted why))
    (cond (list_any (λ v. nat_eq v u) fell) (Some (fate.Fell t)) f)) (i.fates u)
    ∙ (twice (nat_eq t u) (list_any (λ v. nat_eq v u) fell) (fate_of past u) ∙ ap (λ z. option_or z (fate_of past u))
    (sym (undone.ends u)))))
  where
    e : Entry
    e = record { event = event; reply = r }

    twice : (b d : Bool) (f : Option Fate) → cond b (Some (fate.Aborted why)) (cond d (Some (fate.Fell t)) f) ≡ option_or
        (cond b (Some (fate.Aborted why)) (cond d (Some (fate.Fell t)) None)) f
    twice true d f = refl
    twice false true f = refl
    twice false false f = refl

    commits : (b d : Bool) (f : Option Fate) → ((b || d) ≡ true → has_committed f ≡ false) → has_committed f ≡ has_committed
        (option_or (cond b (Some (fate.Aborted why)) (cond d (Some (fate.Fell t)) None)) f)
    commits true d f h = h refl
    commits false true f h = h refl
    commits false false f h = refl

    same_commits : (u : ℕ) → committed past u ≡ committed (e ∷ past) u
    same_commits u = commits (nat_eq t u) (list_any (λ v. nat_eq v u) fell) (fate_of past u)
        (λ g. ap has_committed (live-no_fate past u (lived u g))) ∙ ap (λ z. has_committed (option_or z (fate_of past u)))
        (sym (undone.ends u))

    settles : (k : Key) → after.settled k ≡ settled s.opening (e ∷ past) k
    settles k = x.settled k
        ∙ (i.settled k ∙ sym (ap₂ (λ o q. value_or (option_or o (newest_store q k past)) (s.opening k))
        (ap (stores (committed (e ∷ past)) k) undone.no_access) (fun_ext (λ u. sym (same_commits u)))))
