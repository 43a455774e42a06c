-- The replay in commit order: each commit's reads agree with what is committed, and so the replay gives what was reported.
use Rattle.std.specs.Prelude.{◌≡◌, ◌≢◌, ℕ, ℤ, Bool, true, cond, ◌⊎◌, nat_eq, List, [], ◌∷◌, ◌++◌, length, Some, None}
use Rattle.std.specs.Option.{option_or}
use Rattle.std.proofs.Common.{refl, sym, ap, ap₂, ◌∙◌, subst, subst₂, inl, inr, ⊎_elim}
use Rattle.std.proofs.lemmas.Bool.{cases_eq, eq-eqb, ne_eqb, false_from_ne_true}
use Rattle.sgt_model.specs.declared.event.Event.{Event}
use Rattle.sgt_model.specs.declared.event.Event.TheVariants.{Commit}
use Rattle.sgt_model.specs.declared.reply.Reply.{Reply}
use Rattle.sgt_model.specs.declared.reply.Reply.TheVariants as reply
use Rattle.sgt_model.specs.declared.reply.Fate.TheVariants as fate
use Rattle.sgt_model.specs.declared.entry.Entry.{Entry}
use Rattle.sgt_model.specs.Contents.{Key, Contents}
use Rattle.sgt_model.specs.Runs.{Run, Asked, serial, contents_after, with_accesses}
use Rattle.sgt_model.specs.Traces.{Raises}
use Rattle.sgt_model.specs.Accesses.{Access, access_of, acts}
use Rattle.sgt_model.specs.Fates.{ending_in, fate_of, has_committed, committed, live}
use Rattle.sgt_model.specs.Values.{stores, newest_store, value_or, settled}
use Rattle.sgt_model.specs.Pairs.{Precedes}
use Rattle.sgt_model.specs.Configurations.{Configuration}
use Rattle.sgt_model.specs.Progress.{Call, call_of, caller_accesses, with_caller_accesses, run_of, outcome_in, values_read}
use Rattle.sgt_model.specs.Legality.{Legal}
use Rattle.sgt_model.specs.Replay.{result_of, run_in_turn, reported_call_in, reported_in, reported_calls, folded, reported, ReplayAgrees}
use Rattle.sgt_model.specs.Laws.{LooksAgree, CommitAgrees, CommitsAgree}
use Rattle.sgt_model.proofs.Effects.{Commits, Refusal, effect}
use Rattle.sgt_model.proofs.Facts.{undone_case, access-live, committed-stays, live-stands, live-not_committed, committed-stands, commit-case, Uncommitted, commits_or_not}
use Rattle.sgt_model.proofs.PairOrder.{no_pair_from_live}
use Rattle.sgt_model.proofs.Stores.{found, StoreOf, store_or_not, newest_skip, not_counted, newest_agree, own_or}
use Rattle.sgt_model.proofs.Acts.{requests_of, over, FindsIn, DoneWith}
use Rattle.sgt_model.proofs.Traces.{run_is_trace, law_over_acts, gone_done, finds_own}
use Rattle.sgt_model.proofs.Plays.{only_own, own_end, plays}
use Rattle.sgt_model.proofs.Overs.{over-acts, looks_agree, finds_in}

-- the entry of a commit
abbrev pub commit_entry : ℕ → List ℤ → Entry
commit_entry t answers = record { event = Commit t; reply = reply.Committed answers }

pub committed_own : (past : List Entry) (t : ℕ) (answers : List ℤ) → committed (commit_entry t answers ∷ past) t ≡ true
committed_own past t answers = ap (λ b. has_committed (option_or (cond b (Some fate.Committed) None) (fate_of past t))) (eq-eqb t t refl)

committed_other : (past : List Entry) (t : ℕ) (answers : List ℤ) (u : ℕ) → u ≢ t
    → committed (commit_entry t answers ∷ past) u ≡ committed past u
committed_other past t answers u n = ap (λ b. has_committed (option_or (cond b (Some fate.Committed) None) (fate_of past u)))
    (ne_eqb t u (λ z. n (sym z)))

-- after t's commit the committed value is t's own last one, or else what it was
pub settled_commit : (s : Configuration) (past : List Entry) (t : ℕ) (answers : List ℤ) (k : Key) → Legal s past → live past t ≡ true
    → settled s.opening (commit_entry t answers ∷ past) k ≡ value_or (newest_store (λ u. nat_eq u t) k past) (settled s.opening past k)
settled_commit s past t answers k legal is_live = own_or (committed past) (committed (commit_entry t answers ∷ past)) k past t
    (s.opening k) below (committed_own past t answers) others first
  where
    below : (u : ℕ) → committed past u ≡ true → committed (commit_entry t answers ∷ past) u ≡ true
    below u h = ⊎_elim (λ z. subst (λ v. committed (commit_entry t answers ∷ past) v ≡ true) (sym z) (committed_own past t answers))
        (λ n. committed_other past t answers u n ∙ h) (cases_eq u t)

    others : (b : Access) → newest_store (committed (commit_entry t answers ∷ past)) k past ≡ Some b → b.by ≢ t → committed past b.by ≡ true
    others b h n = sym (committed_other past t answers b.by n) ∙ (found (committed (commit_entry t answers ∷ past)) k past b h).counts

    first : (b : Access) → newest_store (committed (commit_entry t answers ∷ past)) k past ≡ Some b → b.by ≢ t → Precedes past t b.by → ⊥
    first b h n before =
        let c = others b h n in
        no_pair_from_live s past legal t b.by is_live c (record {
          apart = λ z. n (sym z);
          first_stands = live-stands past t is_live;
          second_stands = committed-stands past b.by c;
          precedes = before;
        })

-- an entry at which nothing commits changes no committed value
pub settled_quiet : (s : Configuration) (past : List Entry) (e : Entry) (k : Key) → Legal s (e ∷ past)
    → ((u : ℕ) → ending_in e.event e.reply u ≡ Some fate.Committed → ⊥) → settled s.opening (e ∷ past) k ≡ settled s.opening past k
settled_quiet s past e k h no_commit =
    ap (λ x. value_or x (s.opening k)) (newest_skip (committed (e ∷ past)) k e past (skipped (store_or_not k (access_of e)))
    ∙ newest_agree (committed (e ∷ past)) (committed past) k past below
    (λ a g. committed-stays s e past h a.by (found (committed past) k past a g).counts))
  where
    below : (u : ℕ) → committed (e ∷ past) u ≡ true → committed past u ≡ true
    below u g = elim (commit-case e past u g) [ inl now ↦ absurd (no_commit u now) | inr before ↦ before.1 ]

    skipped : StoreOf k (access_of e) ⊎ ((q : ℕ → Bool) → stores q k (access_of e) ≡ None) → stores (committed (e ∷ past)) k
        (access_of e) ≡ None
    skipped (inl v) = not_counted (committed (e ∷ past)) k (access_of e) v (false_from_ne_true (committed (e ∷ past) v.a.by)
        (λ g. live-not_committed past v.a.by (access-live s past e.event e.reply h.1 v.a v.is) (below v.a.by g)))
    skipped (inr none) = none (committed (e ∷ past))

-- after t's commit the contents of its run are the committed ones
same_after : (s : Configuration) (past : List Entry) (t : ℕ) (answers : List ℤ) → Legal s past → live past t ≡ true
    → ReplayAgrees s past → (k : Key) → over (folded s past).last (acts past t) k ≡ settled s.opening (commit_entry t answers ∷ past) k
same_after s past t answers h is_live ih k =
    over-acts (folded s past).last past t k
    ∙ (ap (λ v. value_or (newest_store (λ u. nat_eq u t) k past) v) (ih.database k)
    ∙ sym (settled_commit s past t answers k h is_live))

pub commit_agrees : (s : Configuration) (past : List Entry) (event : Event) (r : Reply) → Legal s past → (c : Commits s past event r)
    → LooksAgree (settled s.opening past) c.t past
commit_agrees s past event r h c = looks_agree s [] past past c.t refl h c.is_live c.none_live

pub refusal_agrees : (s : Configuration) (past : List Entry) (event : Event) (r : Reply) → Legal s past → (x : Refusal s past event r)
    → LooksAgree (settled s.opening past) x.undoing.t past
refusal_agrees s past event r h x = looks_agree s [] past past x.undoing.t refl h x.undoing.is_live x.none_live

-- at each commit and refusal, each read of its transaction found its own newest write or the committed value
pub commits_agree : (s : Configuration) (past : List Entry) → Legal s past → CommitsAgree s past
commits_agree s [] h = tt
commits_agree s (e ∷ past) h = (commits_agree s past h.0, now (commits_or_not (effect s past e.event e.reply h.1)))
  where
    now : Commits s past e.event e.reply ⊎ (Refusal s past e.event e.reply ⊎ Uncommitted s past e.event e.reply)
        → CommitAgrees s past e.event e.reply
    now (inl c) = subst₂ (λ event r. CommitAgrees s past event r) (sym c.event_is) (sym c.reply_is)
        (commit_agrees s past e.event e.reply h.0 c)
    now (inr (inl x)) = subst₂ (λ event r. CommitAgrees s past event r) (sym x.event_is) (sym x.reply_is)
        (refusal_agrees s past e.event e.reply h.0 x)
    now (inr (inr quiet)) = quiet.agrees

-- the run of a transaction that commits, on the contents so far
-- the call that is run again
abbrev again : List Entry → ℕ → Call
again past t = with_caller_accesses (caller_accesses past t) (call_of past t)

run_done : (s : Configuration) (past : List Entry) (event : Event) (r : Reply) → Legal s past → (c : Commits s past event r)
    → ReplayAgrees s past → DoneWith (outcome_in s.rules (again past c.t) (folded s past).last) c.answers
    (over (folded s past).last (acts past c.t))
run_done s past event r h c ih =
    let run : Run = run_of s.rules (call_of past c.t) in
    let m : Contents = (folded s past).last in
    let p = plays s past c.t h in
    let finds : FindsIn m (p.more ++ p.own) = subst (FindsIn m) p.all_are
    (finds_in m (settled s.opening past) past c.t ih.database (commit_agrees s past event r h c)) in
    let own = (law_over_acts run (run_is_trace run)).done m p.own c.answers p.as_requested (finds_own m p.more p.own finds)
    (own_end run (caller_accesses past c.t) (acts past c.t) c.answers p c.next) in
    subst₂ (λ xs l. DoneWith (with_accesses xs (serial run m)) c.answers (over m l)) (sym p.caller_accesses_are) (sym p.all_are)
    (gone_done m p.own p.more (serial run m) c.answers p.fit finds own)

at_commit : (s : Configuration) (past : List Entry) (t : ℕ) (answers : List ℤ) → Legal s past → live past t ≡ true
    → DoneWith (outcome_in s.rules (again past t) (folded s past).last) answers (over (folded s past).last (acts past t))
    → ReplayAgrees s past → ReplayAgrees s (commit_entry t answers ∷ past)
at_commit s past t answers h is_live d ih = record {
  answers = ap₂ (λ r l. r ∷ l) (ap result_of d.1) ih.answers;
  database = λ k. ap (λ o. contents_after o (folded s past).last k) d.1 ∙ (d.2 k ∙ same_after s past t answers h is_live ih k);
}

at_quiet : (s : Configuration) (e : Entry) (past : List Entry) → Legal s (e ∷ past) → Uncommitted s past e.event e.reply
    → ReplayAgrees s past → ReplayAgrees s (e ∷ past)
at_quiet s e past h quiet ih = record {
  answers = ap (λ l. (run_in_turn s (l ++ reported_calls past)).results) quiet.no_call
      ∙ (ih.answers ∙ ap (λ l. l ++ reported past) (sym quiet.reports_none));
  database = λ k. ap (λ l. (run_in_turn s (l ++ reported_calls past)).last k) quiet.no_call
      ∙ (ih.database k ∙ sym (settled_quiet s past e k h quiet.no_commit));
}

-- the run of a transaction that is refused raises its code
run_raised : (s : Configuration) (past : List Entry) (event : Event) (r : Reply) → Legal s past → (x : Refusal s past event r)
    → ReplayAgrees s past → outcome_in s.rules (again past x.undoing.t) (folded s past).last ≡ Asked x.code
run_raised s past event r h x ih =
    let t : ℕ = x.undoing.t in
    let run : Run = run_of s.rules (call_of past t) in
    let m : Contents = (folded s past).last in
    let p = plays s past t h in
    let only = only_own run (caller_accesses past t) (acts past t) p (λ answers e. cc (sym x.next ∙ e)) in
    let raised : serial run m ≡ Asked x.code = (law_over_acts run (run_is_trace run)).raised m p.own x.code p.as_requested
    (subst (FindsIn m) only.1 (finds_in m (settled s.opening past) past t ih.database (refusal_agrees s past event r h x)))
    (subst (λ l. requests_of run (values_read l) (length l) ≡ Raises x.code) only.1 x.next) in
    ap (λ xs. with_accesses xs (serial run m)) only.2 ∙ raised

pub refusal-no_commit : {s : Configuration} {past : List Entry} {event : Event} {r : Reply} → Refusal s past event r → (u : ℕ)
    → ending_in event r u ≡ Some fate.Committed → ⊥
refusal-no_commit x u e = let a = (undone_case x.undoing u fate.Committed e).is_abort in cc a

at_refusal : (s : Configuration) (e : Entry) (past : List Entry) → Legal s (e ∷ past) → Refusal s past e.event e.reply
    → ReplayAgrees s past → ReplayAgrees s (e ∷ past)
at_refusal s e past h x ih =
    let raised = run_raised s past e.event e.reply h.0 x ih in
    let call : reported_call_in past e.event e.reply ≡ again past x.undoing.t ∷ [] = ap₂ (λ ev r. reported_call_in past ev r) x.event_is
    x.reply_is in
    record {
      answers = ap (λ l. (run_in_turn s (l ++ reported_calls past)).results) call
          ∙ (ap₂ (λ r l. r ∷ l) (ap result_of raised) ih.answers ∙ ap (λ l. l ++ reported past) (sym (ap reported_in x.reply_is)));
      database = λ k. ap (λ l. (run_in_turn s (l ++ reported_calls past)).last k) call
          ∙ (ap (λ o. contents_after o (folded s past).last k) raised
          ∙ (ih.database k ∙ sym (settled_quiet s past e k h (λ u g. refusal-no_commit x u g))));
    }

-- reply order is serial
pub is_serializable : (s : Configuration) (past : List Entry) → Legal s past → ReplayAgrees s past
is_serializable s [] h = record { answers = refl; database = λ k. refl }
is_serializable s (e ∷ past) h = now (is_serializable s past h.0) (commits_or_not (effect s past e.event e.reply h.1))
  where
    now : ReplayAgrees s past → Commits s past e.event e.reply ⊎ (Refusal s past e.event e.reply ⊎ Uncommitted s past e.event e.reply)
        → ReplayAgrees s (e ∷ past)
    now ih (inl c) = subst₂ (λ event r. ReplayAgrees s (record { event = event; reply = r } ∷ past)) (sym c.event_is)
        (sym c.reply_is) (at_commit s past c.t c.answers h.0 c.is_live (run_done s past e.event e.reply h.0 c ih) ih)
    now ih (inr (inl x)) = at_refusal s e past h x ih
    now ih (inr (inr quiet)) = at_quiet s e past h quiet ih
