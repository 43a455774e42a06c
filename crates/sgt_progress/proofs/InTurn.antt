-- Committed and refused calls go through, each in its turn.
use Rattle.std.specs.Prelude.{◌≡◌, ℕ, ℤ, Bool, true, false, cond, ◌⊎◌, List, [], ◌∷◌, ◌++◌, length, map, Option, Some, None}
use Rattle.std.proofs.Common.{refl, sym, ap, ap₂, ◌∙◌, subst, inl, inr}
use Rattle.std.proofs.lemmas.Bool.Decides.{Decides-int_eq}
use Rattle.sgt_model.specs.declared.event.Event.TheVariants.{Commit}
use Rattle.sgt_model.specs.declared.reply.Reply.{Reply}
use Rattle.sgt_model.specs.declared.reply.Reply.TheVariants as reply
use Rattle.sgt_model.specs.declared.entry.Entry.{Entry}
use Rattle.sgt_model.specs.declared.limits.Asks.{Asks}
use Rattle.sgt_model.specs.declared.limits.Asks.TheVariants.{AtStep, AtCommit}
use Rattle.sgt_model.specs.Numbers.{is_value_or_none}
use Rattle.sgt_model.specs.Contents.{Key, Contents, set_in}
use Rattle.sgt_model.specs.Runs.{Run, Outcome, Done, Asked, serial, CallerAccess, reported, wrote, same_reported, with_access, with_accesses}
use Rattle.sgt_model.specs.Traces.{Ends, Raises}
use Rattle.sgt_model.specs.Accesses.{acts}
use Rattle.sgt_model.specs.Fates.{live}
use Rattle.sgt_model.specs.Values.{settled}
use Rattle.sgt_model.specs.Configurations.{Configuration}
use Rattle.sgt_model.specs.Progress.{Call, call_of, caller_accesses, values_read, run_of, outcome_in, next_of}
use Rattle.sgt_model.specs.Replay.{RunResult, GaveAnswers, RaisedCode, result_of, run_in_turn, reported_call_in, reported_calls, folded, reported_in}
use Rattle.sgt_model.specs.Replay as replay
use Rattle.sgt_model.specs.Legality.{LegalReply, Legal, CommitReply, RaisedCommit}
use Rattle.sgt_model.proofs.Acts.{requests_of, FindsIn, caller_access_of}
use Rattle.sgt_model.proofs.Effects.{ends_none-no_call, Effect, idle, begins, accesses, commits, undoes, refuses, effect}
use Rattle.sgt_model.proofs.Overs.{looks_agree, finds_in}
use Rattle.sgt_model.proofs.Plays.{only_own, own_end, plays}
use Rattle.sgt_model.proofs.Replays.{is_serializable}
use Rattle.sgt_model.proofs.Traces.{run_is_trace, law_over_acts, gone_done, finds_own}
use Rattle.sgt_progress.specs.Alone.{IsAlone}
use Rattle.sgt_progress.specs.GivenCalls.{request_of}
use Rattle.sgt_progress.specs.RealTime.{whole_call}
use Rattle.sgt_progress.proofs.Alone.{waits_for_none}
use Rattle.sgt_progress.proofs.Moves.{of_live}

-- ---- outcomes

abbrev pub IsDone : Outcome → Type 0
IsDone (Done answers last) = Unit {0}
IsDone (Asked code) = ⊥

done_from : (o : Outcome) (answers : List ℤ) → result_of o ≡ GaveAnswers answers → IsDone o
done_from (Done given last) answers e = tt
done_from (Asked code) answers e = absurd cc

raised_from : (o : Outcome) (code : ℕ) → result_of o ≡ RaisedCode code → o ≡ Asked code
raised_from (Done given last) code e = absurd cc
raised_from (Asked n) code e = cc

pub is_done : (o : Outcome) (answers : List ℤ) (last : Contents) → o ≡ Done answers last → IsDone o
is_done o answers last e = subst IsDone (sym e) tt

-- a code that the procedure raises is not done, whatever its caller does then
raised_stays : (xs : List CallerAccess) (code : ℕ) → with_accesses xs (Asked code) ≡ Asked code
raised_stays [] code = refl
raised_stays (x ∷ xs) code = ap (λ o. with_access x o) (raised_stays xs code)

pub raises_not_done : (xs : List CallerAccess) (o : Outcome) (code : ℕ) → o ≡ Asked code → IsDone (with_accesses xs o) → ⊥
raises_not_done xs o code e done = subst IsDone (ap (λ p. with_accesses xs p) e ∙ raised_stays xs code) done

-- what is done with one more access is done before it
pub done_before : (x : CallerAccess) (o : Outcome) → IsDone (with_access x o) → IsDone o
done_before x (Done answers last) done = tt
done_before (reported k v) (Asked code) done = absurd done
done_before (wrote k v) (Asked code) done = absurd done

-- what is written then is a value, or none
pub fits_then : (k : Key) (v : Option ℤ) (o : Outcome) → IsDone (with_access (wrote k v) o) → is_value_or_none v ≡ true
fits_then k v (Done answers last) done = go (is_value_or_none v) done
  where
    go : (b : Bool) → IsDone (cond b (Done answers (set_in last k v)) (Asked 0)) → b ≡ true
    go true done = refl
    go false done = absurd done
fits_then k v (Asked code) done = absurd done

same_value : (v w : Option ℤ) → same_reported v w ≡ true → v ≡ w
same_value None None e = refl
same_value None (Some w) e = absurd cc
same_value (Some v) None e = absurd cc
same_value (Some v) (Some w) e = ap Some ((Decides-int_eq v w).0 e)

-- the value that a read returned is what it finds
reported_found : (k : Key) (v : Option ℤ) (answers : List ℤ) (last : Contents)
    → IsDone (with_access (reported k v) (Done answers last)) → v ≡ last k
reported_found k v answers last done = same_value v (last k) (go (same_reported v (last k)) done)
  where
    go : (b : Bool) → IsDone (cond b (Done answers last) (Asked 0)) → b ≡ true
    go true done = refl
    go false done = absurd done

-- two accesses that were requested alike, and are done after the same outcome, are the same
pub same_access : (x y : CallerAccess) (o : Outcome) → request_of x ≡ request_of y → IsDone (with_access x o)
    → IsDone (with_access y o) → x ≡ y
same_access (reported k v) (reported j w) (Done answers last) same one other =
    let key : k ≡ j = cc in
    ap₂ reported key (reported_found k v answers last one ∙ (ap last key ∙ sym (reported_found j w answers last other)))
same_access (reported k v) (reported j w) (Asked code) same one other = absurd one
same_access (reported k v) (wrote j w) o same one other = absurd (cc same)
same_access (wrote k v) (reported j w) o same one other = absurd (cc same)
same_access (wrote k v) (wrote j w) o same one other =
    let key : k ≡ j = cc in let value : v ≡ w = cc in ap₂ wrote key value

-- ---- a call in its turn

-- a call goes through on these contents: with its caller's accesses it is done; or codes are reported at the commit, and its
-- procedure raises one
abbrev pub GoesThrough : Configuration → Call → Contents → Type 0
GoesThrough s c m = IsDone (outcome_in s.rules c m)
    ⊎ ((s.rules.limits.asks ≡ AtCommit) × (c.caller_accesses ≡ []) × ((code : ℕ) × (serial (run_of s.rules c) m ≡ Asked code)))

-- calls that go through, each in its turn
abbrev pub AllGoThrough : Configuration → List Call → Type 0
AllGoThrough s [] = Unit {0}
AllGoThrough s (c ∷ before) = AllGoThrough s before × GoesThrough s c (run_in_turn s before).last

-- if codes are reported at the step, it raises none
pub raises_none : (s : Configuration) (c : Call) (m : Contents) → GoesThrough s c m → s.rules.limits.asks ≡ AtStep → (code : ℕ)
    → serial (run_of s.rules c) m ≡ Asked code → ⊥
raises_none s c m (inl done) at code raised = raises_not_done c.caller_accesses (serial (run_of s.rules c) m) code raised done
raises_none s c m (inr (at_commit, none, rest)) at code raised = cc (sym at ∙ at_commit)

-- ---- the only live transaction

-- each of its reads finds what the replay of those before it has
finds_alone : (s : Configuration) (past : List Entry) → Legal s past → (t : ℕ) → IsAlone past t → FindsIn (folded s past).last (acts past t)
finds_alone s past legal t alone = finds_in (folded s past).last (settled s.opening past) past t (is_serializable s past legal).database
    (looks_agree s [] past past t refl legal alone.is_live (waits_for_none past t alone))

-- if its procedure raises a code, it raises it in the replay too
pub raises_in_turn : (s : Configuration) (past : List Entry) → Legal s past → (t : ℕ) → IsAlone past t → (code : ℕ)
    → next_of s past t ≡ Raises code
    → serial (run_of s.rules (call_of past t)) (folded s past).last ≡ Asked code
raises_in_turn s past legal t alone code next =
    let run : Run = run_of s.rules (call_of past t) in
    let m : Contents = (folded s past).last in
    let p = plays s past t legal in
    let only = only_own run (caller_accesses past t) (acts past t) p (λ answers e. cc (sym next ∙ e)) in
    (law_over_acts run (run_is_trace run)).raised m p.own code p.as_requested (subst (FindsIn m) only.1 (finds_alone s past legal t alone))
    (subst (λ l. requests_of run (values_read l) (length l) ≡ Raises code) only.1 next)

-- if its procedure is at its end, its call is done in the replay too, with the accesses that its caller has made
pub done_in_turn : (s : Configuration) (past : List Entry) → Legal s past → (t : ℕ) → IsAlone past t → (answers : List ℤ)
    → next_of s past t ≡ Ends answers
    → IsDone (outcome_in s.rules (whole_call past t) (folded s past).last)
done_in_turn s past legal t alone answers next =
    let run : Run = run_of s.rules (call_of past t) in
    let m : Contents = (folded s past).last in
    let p = plays s past t legal in
    let finds : FindsIn m (p.more ++ p.own) = subst (FindsIn m) p.all_are (finds_alone s past legal t alone) in
    let own = (law_over_acts run (run_is_trace run)).done m p.own answers p.as_requested (finds_own m p.more p.own finds)
    (own_end run (caller_accesses past t) (acts past t) answers p next) in
    let all = gone_done m p.own p.more (serial run m) answers p.fit finds own in
    subst (λ xs. IsDone (with_accesses xs (serial run m))) (sym p.caller_accesses_are)
    (is_done (with_accesses (map caller_access_of p.more) (serial run m)) answers all.0 all.1)

-- ---- of a history

-- if codes are reported at the step, a commit does not refuse
at_commit_only : (s : Configuration) (past : List Entry) (t code : ℕ) (r : Reply) → s.rules.limits.asks ≡ AtStep → live past t ≡ true
    → next_of s past t ≡ Raises code → LegalReply s past (Commit t) r → r ≡ reply.NotEnded
at_commit_only s past t code r at_step alive next h =
    let c = of_live past t r (CommitReply s past t (next_of s past t) r) alive h in
    subst (λ a. RaisedCommit a past t code r) at_step (subst (λ n. CommitReply s past t n r) next c)

first_result : (r q : RunResult) (rs qs : List RunResult) → r ∷ rs ≡ q ∷ qs → r ≡ q
first_result r q rs qs e = cc

-- the reported calls of a legal history go through
pub all_go_through : (s : Configuration) (past : List Entry) → Legal s past → AllGoThrough s (reported_calls past)
all_go_through s [] legal = tt
all_go_through s (e ∷ past) legal = by_effect (all_go_through s past legal.0) (effect s past e.event e.reply legal.1)
  where
    same : reported_call_in past e.event e.reply ≡ [] → AllGoThrough s (reported_calls past) → AllGoThrough s (reported_calls (e ∷ past))
    same none h = subst (λ l. AllGoThrough s (l ++ reported_calls past)) (sym none) h

    -- the result of the call that is reported now
    reported_now : (t : ℕ) (x : RunResult) → reported_call_in past e.event e.reply ≡ whole_call past t ∷ [] → reported_in e.reply ≡ x ∷ []
        → result_of (outcome_in s.rules (whole_call past t) (folded s past).last) ≡ x
    reported_now t x now is = first_result _ x _ (replay.reported past)
        (sym (ap (λ l. (run_in_turn s (l ++ reported_calls past)).results) now) ∙ ((is_serializable s (e ∷ past) legal).answers
        ∙ ap (λ l. l ++ replay.reported past) is))

    when : (t code : ℕ) → live past t ≡ true → next_of s past t ≡ Raises code → LegalReply s past (Commit t) e.reply
        → (e.reply ≡ reply.NotEnded → ⊥) → s.rules.limits.asks ≡ AtCommit
    when t code alive next h not = go s.rules.limits.asks refl
      where
        go : (asks : Asks) → s.rules.limits.asks ≡ asks → s.rules.limits.asks ≡ AtCommit
        go AtStep at = absurd (not (at_commit_only s past t code e.reply at alive next h))
        go AtCommit at = at

    by_effect : AllGoThrough s (reported_calls past) → Effect s past e.event e.reply → AllGoThrough s (reported_calls (e ∷ past))
    by_effect h (idle i) = same (ends_none-no_call past e.event e.reply i.ends_none) h
    by_effect h (begins b) = same (ap (λ r. reported_call_in past e.event r) b.reply_is) h
    by_effect h (accesses x) = same (ends_none-no_call past e.event e.reply x.ends_none) h
    by_effect h (commits c) =
        let now : reported_call_in past e.event e.reply ≡ whole_call past c.t
        ∷ [] = ap₂ (λ v r. reported_call_in past v r) c.event_is c.reply_is in
        subst (λ l. AllGoThrough s (l ++ reported_calls past)) (sym now)
        (h, inl (done_from _ c.answers (reported_now c.t (GaveAnswers c.answers) now (ap reported_in c.reply_is))))
    by_effect h (undoes x) = same (ap (λ r. reported_call_in past e.event r) x.reply_is) h
    by_effect h (refuses x) =
        let t : ℕ = x.undoing.t in
        let run : Run = run_of s.rules (call_of past t) in
        let now : reported_call_in past e.event e.reply ≡ whole_call past t
        ∷ [] = ap₂ (λ v r. reported_call_in past v r) x.event_is x.reply_is in
        let commit : LegalReply s past (Commit t) e.reply = subst (λ v. LegalReply s past v e.reply) x.event_is legal.1 in
        let none = (only_own run (caller_accesses past t) (acts past t) (plays s past t legal.0) (λ answers e. cc (sym x.next ∙ e))).2 in
        let asked = raised_from _ x.code (reported_now t (RaisedCode x.code) now (ap reported_in x.reply_is)) in
        subst (λ l. AllGoThrough s (l ++ reported_calls past)) (sym now) (
          h,
          inr (
            when t x.code x.undoing.is_live x.next commit (λ q. cc (sym x.reply_is ∙ q)),
            none,
            (x.code, sym (ap (λ xs. with_accesses xs (serial run (folded s past).last)) none) ∙ asked),
          ),
        )
