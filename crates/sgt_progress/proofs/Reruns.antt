-- Committed and refused calls, one after another.
use Rattle.std.specs.Prelude.{◌≡◌, ℕ, zero, suc, ◌+◌, ◌<◌, ◌≤◌, ℤ, Bool, true, false, cond, ◌⊎◌, nat_eq, List, [], ◌∷◌, ◌++◌, length, map, Option, Some, None, All}
use Rattle.std.specs.List.{list_all}
use Rattle.std.specs.Option.{unwrap_or}
use Rattle.std.proofs.Common.{T, refl, sym, ap, ap₂, ◌∙◌, subst, subst₂, inl, inr, arith, length-append}
use Rattle.std.proofs.lemmas.Bool.{both_ways, cond-true, eq-eqb, ne_eqb, and_from, false_from_ne_true}
use Rattle.std.proofs.lemmas.List.Elements.{All-head, All-tail}
use Rattle.sgt_model.specs.declared.event.Event.{Event}
use Rattle.sgt_model.specs.declared.event.Event.TheVariants.{Start, Step, Commit}
use Rattle.sgt_model.specs.declared.event.Event.TheVariants as events
use Rattle.sgt_model.specs.declared.event.Request.{Request}
use Rattle.sgt_model.specs.declared.event.Request.TheVariants.{Read, Write}
use Rattle.sgt_model.specs.declared.reply.Reply.{Reply}
use Rattle.sgt_model.specs.declared.reply.Reply.TheVariants as reply
use Rattle.sgt_model.specs.declared.reply.Cause.TheVariants as cause
use Rattle.sgt_model.specs.declared.entry.Entry.{Entry}
use Rattle.sgt_model.specs.declared.kind.Kind.TheVariants.{Look, Store}
use Rattle.sgt_model.specs.declared.limits.Asks.{Asks}
use Rattle.sgt_model.specs.declared.limits.Asks.TheVariants.{AtStep, AtCommit}
use Rattle.sgt_model.specs.Numbers.{IsValue, is_value}
use Rattle.sgt_model.specs.Contents.{Contents}
use Rattle.sgt_model.specs.Paths.{Member}
use Rattle.sgt_model.specs.Runs.{Asked, serial, CallerAccess, reported, wrote, with_access, with_accesses}
use Rattle.sgt_model.specs.Traces.{Next, Looks, Puts, Ends, Raises}
use Rattle.sgt_model.specs.Accesses.{Access, access_in, access_of, acts}
use Rattle.sgt_model.specs.Fates.{is_start, start_count, ending_in, started_ones, live, live_ones}
use Rattle.sgt_model.specs.Values.{visible}
use Rattle.sgt_model.specs.Configurations.{Configuration}
use Rattle.sgt_model.specs.Progress.{Call, call_of, caller_access_in, caller_accesses, with_caller_accesses, requested, is_fit, run_of, outcome_in, next_of}
use Rattle.sgt_model.specs.Admissions.{IsAdmitted, AreAdmitted}
use Rattle.sgt_model.specs.Aborts.{CauseHolds}
use Rattle.sgt_model.specs.StartReply.{args_fit, capacity_reply, taken_reply, start_reply}
use Rattle.sgt_model.specs.Replay.{run_in_turn, reported_call_in, reported_calls}
use Rattle.sgt_model.specs.Legality.{LegalReply, Legal, OfFit, RequestReply, StepReply, CommitReply, RaisedStep, RaisedCommit}
use Rattle.sgt_model.specs.Questions.{over_in, is_ending}
use Rattle.sgt_model.proofs.Acts.{caller_access_of}
use Rattle.sgt_model.proofs.Admissions.{committed_admitted}
use Rattle.sgt_model.proofs.Conditions.{distinct_fits}
use Rattle.sgt_model.proofs.Effects.{EndsNone, Fits, ends_none-no_call, ends_none-no_end, Effect, idle, begins, accesses, commits, undoes, refuses, effect}
use Rattle.sgt_model.proofs.Facts.{live-started, live-before, call-kept}
use Rattle.sgt_model.proofs.Listed.{member_kept}
use Rattle.sgt_model.proofs.OneReply.{replies_are_unique}
use Rattle.sgt_model.proofs.Plays.{act_own, acts_unstarted, plays}
use Rattle.sgt_model.proofs.Questions.{over_are_not_live, endings_end_one}
use Rattle.sgt_model.proofs.Replays.{is_serializable}
use Rattle.sgt_model.proofs.Capacity.{limits_are_kept}
use Rattle.sgt_model.proofs.SomeReply.{some_reply_is_legal, begun_has}
use Rattle.sgt_progress.specs.Alone.{NoneLive, IsAlone, IsStepOrCommitOf, IsNoQuitOf, is_hindered}
use Rattle.sgt_progress.specs.Drains.{accesses_left}
use Rattle.sgt_progress.specs.GivenCalls.{request_of}
use Rattle.sgt_progress.specs.Predecessors.{IsEnd}
use Rattle.sgt_progress.specs.RealTime.{reported_ones, whole_call}
use Rattle.sgt_progress.specs.Reruns.{CallsDecide, IsOneByOne, RerunsAgree, OneByOneIsForced}
use Rattle.sgt_progress.proofs.Alone.{closes_none, undoes_own, asks-no_start, waits_for_none, started_alone, stays_alone, alone_is_not_aborted}
use Rattle.sgt_progress.proofs.Drains.{most, weight, weight_less, made_few, asked-no_start}
use Rattle.sgt_progress.proofs.InTurn.{IsDone, done_before, fits_then, raises_not_done, same_access, GoesThrough, AllGoThrough, raises_in_turn, done_in_turn, all_go_through}
use Rattle.sgt_progress.proofs.Moves.{of_live, to_live}
use Rattle.sgt_progress.proofs.RealTime.{reported-started, once, calls}
use Rattle.sgt_progress.proofs.RunAlone.{none_after_end}
use Rattle.sgt_progress.proofs.Waits.{end_goes_on}

pub calls_decide : CallsDecide
calls_decide s one other legal also same =
    let a = is_serializable s one legal in
    let b = is_serializable s other also in record {
      reported_same = sym a.answers ∙ ap (λ l. (run_in_turn s l).results) same ∙ b.answers;
      same_database = λ k. sym (a.database k) ∙ ap (λ l. (run_in_turn s l).last k) same ∙ b.database k;
    }

-- how many calls there are

started_length : (past : List Entry) → length (started_ones past) ≡ start_count past
started_length [] = refl
started_length (e ∷ past) = go (is_start e.reply) (started_length past)
  where
    go : (b : Bool) → length (started_ones past) ≡ start_count past
        → length (cond b (started_ones past ++ start_count past ∷ []) (started_ones past)) ≡ cond b (start_count past + 1)
        (start_count past)
    go true h = length-append (started_ones past) (start_count past ∷ []) ∙ ap (λ n. n + 1) h
    go false h = h

length_map : (f : ℕ → Call) (l : List ℕ) → length (map f l) ≡ length l
length_map f [] = refl
length_map f (t ∷ l) = ap suc (length_map f l)

pub reported_few : (s : Configuration) (past : List Entry) → Legal s past → length (reported_calls past) ≤ s.rules.limits.begins
reported_few s past legal =
    let a : length (reported_calls past) ≡ length (reported_ones past) = ap length (calls s past legal)
    ∙ length_map (whole_call past) (reported_ones past) in
    let b = distinct_fits (reported_ones past) (started_ones past) (once s past legal)
    (λ t m. begun_has past t (reported-started s past legal t m)) in
    let c = started_length past in
    let d = (limits_are_kept s past legal).0 in
    omega arith

-- ---- to run one call

-- what holds of a history in which all earlier calls were reported, one after another
pub record Ran (s : Configuration) (past : List Entry) (before : List Call) (count : ℕ) : Type 0 where
  pub legal : Legal s past
  pub one_by_one : IsOneByOne past
  pub same_calls : reported_calls past ≡ before
  pub count_is : start_count past ≡ count

-- and t is the only live transaction: its call is c, with the accesses that its caller has made
pub record Going (s : Configuration) (past : List Entry) (t : ℕ) (c : Call) (before : List Call) (count : ℕ) : Type 0 where
  pub ran : Ran s past before count
  pub alone : IsAlone past t
  pub called : whole_call past t ≡ c

-- after one of its steps and commits it is the only live one still, and nothing more was reported; or its end was
-- reported
abbrev pub AfterOne : Configuration → List Entry → ℕ → Call → List Call → ℕ → Type 0
AfterOne s past t c before count = Going s past t c before count ⊎ (Ran s past (c ∷ before) count × NoneLive past)

-- a code is not raised in its turn, if codes are reported at the step
abbrev pub Quiet : Configuration → Call → List Call → Type 0
Quiet s c before = s.rules.limits.asks ≡ AtStep → (code : ℕ) → serial (run_of s.rules c) (run_in_turn s before).last ≡ Asked code → ⊥

-- an abort for a code: codes are reported at the step, and the procedure raises this one
raised_now : (s : Configuration) (past : List Entry) (t code : ℕ) (fell : List ℕ) (event : Event) (r : Reply) → live past t ≡ true
    → IsStepOrCommitOf event t
    → LegalReply s past event r → r ≡ reply.Aborted (cause.Asked code) fell → CauseHolds s past event (cause.Asked code)
    → (s.rules.limits.asks ≡ AtStep) × (next_of s past t ≡ Raises code)
raised_now s past t code fell event r alive (inr q) h is holds = absurd (subst (λ v. CauseHolds s past v (cause.Asked code)) q holds)
raised_now s past t code fell event r alive (inl q) h is holds =
    let next : next_of s past t ≡ Raises code = subst (λ v. CauseHolds s past v (cause.Asked code)) q holds in (
      when s.rules.limits.asks (subst (λ n. StepReply s past t n r) next
          (of_live past t r _ alive (subst (λ v. LegalReply s past v r) q h))),
      next,
    )
  where
    when : (a : Asks) → RaisedStep a past t code r → a ≡ AtStep
    when AtStep h = refl
    when AtCommit h = absurd (cc (sym h ∙ is))

-- no step and no commit makes an access for a caller
no_caller_access : (event : Event) (t : ℕ) (r : Reply) → IsStepOrCommitOf event t → caller_access_in event r t ≡ []
no_caller_access event t r (inl q) = ap (λ v. caller_access_in v r t) q
no_caller_access event t r (inr q) = ap (λ v. caller_access_in v r t) q

module _ (s : Configuration) (past : List Entry) (t : ℕ) (c : Call) (before : List Call) (count : ℕ) (going : Going s past t c before count)
    (quiet : Quiet s c before) (event : Event) (asks : IsStepOrCommitOf event t) (r : Reply) (h : LegalReply s past event r) where
  abbrev e : Entry
  e = record { event = event; reply = r }

  ran : Ran s past before count
  ran = going.ran

  alone : IsAlone past t
  alone = going.alone

  no_start : is_start r ≡ false
  no_start = asked-no_start s past event t (inl asks) r h

  longer : (calls_then : List Call) → reported_calls (e ∷ past) ≡ calls_then → Ran s (e ∷ past) calls_then count
  longer calls_then is = record {
    legal = (ran.legal, h);
    one_by_one = (ran.one_by_one, inr (t, alone, inl asks));
    same_calls = is;
    count_is = ap (λ b. cond b (start_count past + 1) (start_count past)) no_start ∙ ran.count_is;
  }

  still : ending_in event r t ≡ None → reported_call_in past event r ≡ [] → AfterOne s (e ∷ past) t c before count
  still no_end no_call = inl (record {
    ran = longer before (ap (λ l. l ++ reported_calls past) no_call ∙ ran.same_calls);
    alone = stays_alone past e t alone no_start no_end;
    called = ap₂ (λ (l : List CallerAccess) (x : Call). with_caller_accesses (l ++ caller_accesses past t) x)
        (no_caller_access event t r asks)
        (call-kept s past e t h (live-started past t alone.is_live)) ∙ going.called;
  })

  over : (u : ℕ) → live past u ≡ true → over_in event r ≡ Some u → reported_call_in past event r ≡ whole_call past u ∷ []
      → AfterOne s (e ∷ past) t c before count
  over u is_live ended reported_call =
      let same : u ≡ t = alone.only u is_live in inr (
        longer (c ∷ before) (ap (λ l. l ++ reported_calls past) reported_call
            ∙ ap₂ (λ x l. x ∷ l) (ap (whole_call past) same ∙ going.called) ran.same_calls),
        λ v. false_from_ne_true (live (e ∷ past) v) (λ alive.
            let was : live past v ≡ true = live-before e past v alive
            (subst (λ b. v < cond b (start_count past + 1) (start_count past)) no_start
            (live-started (e ∷ past) v alive)) in
            both_ways (live (e ∷ past) v) (ap (live (e ∷ past)) (alone.only v was ∙ sym same)
            ∙ over_are_not_live s past e (ran.legal, h) u ended) alive),
      )

  -- a code that is reported at the step is raised in turn
  raised_at_step : (code : ℕ) (fell : List ℕ) → r ≡ reply.Aborted (cause.Asked code) fell → CauseHolds s past event (cause.Asked code) → ⊥
  raised_at_step code fell is holds =
      let raised = raised_now s past t code fell event r alone.is_live asks h is holds in
      quiet raised.0 code (subst₂ (λ x l. serial (run_of s.rules x) (run_in_turn s l).last ≡ Asked code) going.called ran.same_calls
      (raises_in_turn s past ran.legal t alone code raised.1))

  pub after_one : AfterOne s (e ∷ past) t c before count
  after_one = by_effect (effect s past event r h)
    where
      by_effect : Effect s past event r → AfterOne s (e ∷ past) t c before count
      by_effect (idle i) = still (ends_none-no_end event r i.ends_none t) (ends_none-no_call past event r i.ends_none)
      by_effect (begins b) = absurd (asks-no_start event t (inl asks) b.procedure b.args b.event_is)
      by_effect (accesses x) = still (ends_none-no_end event r x.ends_none t) (ends_none-no_call past event r x.ends_none)
      by_effect (commits y) = over y.t y.is_live (ap₂ over_in y.event_is y.reply_is)
          (ap₂ (λ v q. reported_call_in past v q) y.event_is y.reply_is)
      by_effect (undoes x) = let w = undoes_own s past ran.legal t alone event (inl asks) x.undoing.why x.has_cause in
          absurd (raised_at_step w.0 x.undoing.fell (x.reply_is ∙ ap (λ why. reply.Aborted why x.undoing.fell) w.1)
          (subst (CauseHolds s past event) w.1 x.has_cause))
      by_effect (refuses x) = over x.undoing.t x.undoing.is_live (ap₂ over_in x.event_is x.reply_is)
          (ap₂ (λ v q. reported_call_in past v q) x.event_is x.reply_is)

-- ---- an access on which its caller decided

module _ (s : Configuration) (past : List Entry) (t : ℕ) (c : Call) (before : List Call) (count : ℕ) (going : Going s past t c before count)
    (d : Request) (r : Reply) (h : LegalReply s past (events.Access t d) r) where
  abbrev asked : Entry
  asked = record { event = events.Access t d; reply = r }

  -- the reply starts and ends none, and this many of the caller's accesses are made
  pub requested_on : is_start r ≡ false → EndsNone r → (l : List CallerAccess) → caller_access_in (events.Access t d) r t ≡ l
      → Going s (asked ∷ past) t (with_caller_accesses (l ++ c.caller_accesses) c) before count
  requested_on no_start ends_none l made_are = record {
    ran = record {
      legal = (going.ran.legal, h);
      one_by_one = (going.ran.one_by_one, inr (t, going.alone, inr (d, refl)));
      same_calls = ap (λ x. x ++ reported_calls past) (ends_none-no_call past (events.Access t d) r ends_none) ∙ going.ran.same_calls;
      count_is = ap (λ b. cond b (start_count past + 1) (start_count past)) no_start ∙ going.ran.count_is;
    };
    alone = stays_alone past asked t going.alone no_start (ends_none-no_end (events.Access t d) r ends_none t);
    called = ap₂ (λ (x : List CallerAccess) (q : Call). with_caller_accesses (x ++ caller_accesses past t) q) made_are
        (call-kept s past asked t h (live-started past t going.alone.is_live))
        ∙ ap (λ (q : Call). with_caller_accesses (l ++ q.caller_accesses) q) going.called;
  }

  -- its procedure stays at its end
  pub end_stays : (answers : List ℤ) → next_of s past t ≡ Ends answers → (a : Access) → access_of asked ≡ Some a → a.by ≡ t
      → next_of s (asked ∷ past) t ≡ Ends answers
  end_stays answers end a is own =
      end_goes_on s past asked (going.ran.legal, h) t (live-started past t going.alone.is_live) answers end a is own

-- the access that was made is the one that goes through in its turn
pub made_same : (s : Configuration) (past : List Entry) (t : ℕ) (c : Call) (before : List Call) (count : ℕ) (answers : List ℤ)
    (x y : CallerAccess)
    → Going s past t (with_caller_accesses (x ∷ c.caller_accesses) c) before count → next_of s past t ≡ Ends answers
    → request_of x ≡ request_of y → IsDone (with_access y (outcome_in s.rules c (run_in_turn s before).last)) → x ≡ y
made_same s past t c before count answers x y going end same done =
    same_access x y (outcome_in s.rules c (run_in_turn s before).last) same
    (subst₂ (λ (q : Call) l. IsDone (outcome_in s.rules q (run_in_turn s l).last)) going.called going.ran.same_calls
    (done_in_turn s past going.ran.legal t going.alone answers end)) done

-- ---- a call is run again

-- an access is next
abbrev IsAccessNext : Next → Type 0
IsAccessNext (Looks k) = Unit {0}
IsAccessNext (Puts k v) = Unit {0}
IsAccessNext (Ends answers) = ⊥
IsAccessNext (Raises code) = ⊥

-- a transaction goes on by an access of its procedure
record Stepped (s : Configuration) (past : List Entry) (t : ℕ) (c : Call) (before : List Call) (count : ℕ) : Type 0 where
  entry : Entry
  going : Going s (entry ∷ past) t c before count
  less : accesses_left s (entry ∷ past) t + 1 ≤ accesses_left s past t

module _ (s : Configuration) (past : List Entry) (t : ℕ) (c : Call) (before : List Call) (count : ℕ)
    (going : Going s past t c before count) where
  alive : live past t ≡ true
  alive = going.alone.is_live

  stepped_by : (r : Reply) (a : Access) → LegalReply s past (Step t) r → access_in (Step t) r ≡ Some a → a.by ≡ t → is_start r ≡ false
      → EndsNone r → length (a ∷ acts past t) ≤ most s past t → Stepped s past t c before count
  stepped_by r a h is own no_start ends_none few =
      let e : Entry = record { event = Step t; reply = r } in
      let again : IsAlone (e ∷ past) t = stays_alone past e t going.alone no_start (ends_none-no_end (Step t) r ends_none t) in
      let longer = act_own (access_of e) a t (acts past t) is own in
      let less = weight_less s past e (going.ran.legal, h) t alive
      (inr (ap length longer ∙ omega arith, subst (λ l. length l ≤ most s past t) (sym longer) few)) in
      let now : weight s (e ∷ past) t ≡ accesses_left s (e ∷ past) t + 1 = ap
      (λ b. cond b (accesses_left s (e ∷ past) t + 1) 0) again.is_live in
      let was : weight s past t ≡ accesses_left s past t + 1 = ap (λ b. cond b (accesses_left s past t + 1) 0) alive in
      record {
        entry = e;
        going = record {
          ran = record {
            legal = (going.ran.legal, h);
            one_by_one = (going.ran.one_by_one, inr (t, going.alone, inl (inl refl)));
            same_calls = ap (λ l. l ++ reported_calls past) (ends_none-no_call past (Step t) r ends_none) ∙ going.ran.same_calls;
            count_is = ap (λ b. cond b (start_count past + 1) (start_count past)) no_start ∙ going.ran.count_is;
          };
          alone = again;
          called = ap (with_caller_accesses (caller_accesses past t)) (call-kept s past e t h (live-started past t alive)) ∙ going.called;
        };
        less = omega arith;
      }

  step_on : (n : Next) → next_of s past t ≡ n → IsAccessNext n → Stepped s past t c before count
  step_on (Looks k) next is = stepped_by (reply.Looked k (visible s.opening past k))
      (record { by = t; key = k; kind = Look; value = visible s.opening past k })
      (to_live past t _ _ alive (subst (λ n. StepReply s past t n (reply.Looked k (visible s.opening past k))) (sym next) (inr (record {
        free = λ rest closes. closes_none s past going.ran.legal t going.alone k Look rest closes;
        is = refl;
      })))) refl refl refl tt
      (made_few s past going.ran.legal t _ (subst (λ n. Fits n
      (record { by = t; key = k; kind = Look; value = visible s.opening past k })) (sym next) (refl, refl)))
  step_on (Puts k v) next is = stepped_by (reply.Wrote k v) (record { by = t; key = k; kind = Store; value = v })
      (to_live past t _ _ alive (subst (λ n. StepReply s past t n (reply.Wrote k v)) (sym next) (inr (record {
        free = λ rest closes. closes_none s past going.ran.legal t going.alone k Store rest closes;
        is = refl;
      })))) refl refl refl tt
      (made_few s past going.ran.legal t _ (subst (λ n. Fits n (record { by = t; key = k; kind = Store; value = v }))
      (sym next) (refl, refl, refl)))
  step_on (Ends answers) next is = absurd is
  step_on (Raises code) next is = absurd is

-- it is at its procedure's end, or goes on
end_or_step : (s : Configuration) (past : List Entry) (t : ℕ) (c : Call) (before : List Call) (count : ℕ) → Going s past t c before count
    → IsEnd (next_of s past t) ⊎ Stepped s past t c before count
end_or_step s past t c before count going = by_next (next_of s past t) refl
  where
    by_next : (n : Next) → next_of s past t ≡ n → IsEnd (next_of s past t) ⊎ Stepped s past t c before count
    by_next (Looks k) next = inr (step_on s past t c before count going (Looks k) next tt)
    by_next (Puts k v) next = inr (step_on s past t c before count going (Puts k v) next tt)
    by_next (Ends answers) next = inl (subst IsEnd (sym next) tt)
    by_next (Raises code) next = inl (subst IsEnd (sym next) tt)

to_end : (n : ℕ) (s : Configuration) (past : List Entry) (t : ℕ) (c : Call) (before : List Call) (count : ℕ) → Going s past t c before count
    → accesses_left s past t ≤ n → (after : List Entry) × Going s after t c before count × IsEnd (next_of s after t)
to_end zero s past t c before count going few = elim (end_or_step s past t c before count going) [
  | inl end ↦ (past, going, end)
  | inr one ↦ let less = one.less in absurd (omega arith)
]
to_end (suc n) s past t c before count going few = elim (end_or_step s past t c before count going) [
  | inl end ↦ (past, going, end)
  | inr one ↦ let less = one.less in to_end n s (one.entry ∷ past) t c before count one.going (omega arith)
]

-- its caller makes one more access, that goes through in its turn
request_on : (s : Configuration) (past : List Entry) (t : ℕ) (c : Call) (before : List Call) (count : ℕ) (answers : List ℤ)
    (x : CallerAccess)
    → Going s past t c before count → next_of s past t ≡ Ends answers
    → IsDone (with_access x (outcome_in s.rules c (run_in_turn s before).last))
    → (e : Entry) × Going s (e ∷ past) t (with_caller_accesses (x ∷ c.caller_accesses) c) before count ×
    (next_of s (e ∷ past) t ≡ Ends answers)
request_on s past t c before count answers (reported k v) going end done =
    let w : Option ℤ = visible s.opening past k in
    let r : Reply = reply.Looked k w in
    let h : LegalReply s past (events.Access t (Read k)) r = to_live past t r _ going.alone.is_live
    (subst (λ n. RequestReply s past t (Read k) n r) (sym end) (inr (record {
      free = λ rest closes. closes_none s past going.ran.legal t going.alone k Look rest closes;
      is = refl;
    }))) in
    let again = requested_on s past t c before count going (Read k) r h refl tt (reported k w ∷ [])
    (cond-true (nat_eq t t) (reported k w ∷ []) [] (eq-eqb t t refl)) in
    let end_then = end_stays s past t c before count going (Read k) r h answers end
    (record { by = t; key = k; kind = Look; value = w }) refl refl in
    let e : Entry = record { event = events.Access t (Read k); reply = r } in
    let same = made_same s (e ∷ past) t c before count answers (reported k w) (reported k v) again end_then refl done in (
      e,
      subst (λ x. Going s (e ∷ past) t (with_caller_accesses (x ∷ c.caller_accesses) c) before count) same again,
      end_then,
    )
request_on s past t c before count answers (wrote k v) going end done =
    let r : Reply = reply.Wrote k v in
    let fit : is_fit (Write k v) ≡ true = fits_then k v (outcome_in s.rules c (run_in_turn s before).last) done in
    let h : LegalReply s past (events.Access t (Write k v)) r = to_live past t r _ going.alone.is_live
    (subst (λ n. RequestReply s past t (Write k v) n r) (sym end)
    (subst (λ b. OfFit b r (StepReply s past t (requested (Write k v)) r)) (sym fit) (inr (record {
      free = λ rest closes. closes_none s past going.ran.legal t going.alone k Store rest closes;
      is = refl;
    })))) in (
      record { event = events.Access t (Write k v); reply = r },
      requested_on s past t c before count going (Write k v) r h refl tt (wrote k v ∷ [])
          (cond-true (nat_eq t t) (wrote k v ∷ []) [] (eq-eqb t t refl)),
      end_stays s past t c before count going (Write k v) r h answers end (record { by = t; key = k; kind = Store; value = v }) refl refl,
    )

-- and all that its caller made
requests_on : (s : Configuration) (past : List Entry) (t : ℕ) (c : Call) (before : List Call) (count : ℕ) (answers : List ℤ)
    (xs : List CallerAccess)
    → Going s past t (with_caller_accesses [] c) before count → next_of s past t ≡ Ends answers
    → IsDone (with_accesses xs (serial (run_of s.rules c) (run_in_turn s before).last))
    → (after : List Entry) × Going s after t (with_caller_accesses xs c) before count × (next_of s after t ≡ Ends answers)
requests_on s past t c before count answers [] going end done = (past, going, end)
requests_on s past t c before count answers (x ∷ xs) going end done =
    let rest = requests_on s past t c before count answers xs going end
    (done_before x (with_accesses xs (serial (run_of s.rules c) (run_in_turn s before).last)) done) in
    let one = request_on s rest.0 t (with_caller_accesses xs c) before count answers x rest.1 rest.2 done in
    (one.0 ∷ rest.0, one.1, one.2)

-- at the end it commits, or is refused
commit_on : (s : Configuration) (past : List Entry) (t : ℕ) (c : Call) (before : List Call) (count : ℕ) (answers : List ℤ)
    → Going s past t c before count
    → next_of s past t ≡ Ends answers → (after : List Entry) × Ran s after (c ∷ before) count × NoneLive after
commit_on s past t c before count answers going end =
    let e : Entry = record { event = Commit t; reply = reply.Committed answers } in
    let h : LegalReply s past (Commit t) (reply.Committed answers) = to_live past t _ _ going.alone.is_live
    (subst (λ n. CommitReply s past t n (reply.Committed answers)) (sym end)
    (inr (record { none_live = waits_for_none past t going.alone; is = refl }))) in (
      e ∷ past,
      record {
        legal = (going.ran.legal, h);
        one_by_one = (going.ran.one_by_one, inr (t, going.alone, inl (inr refl)));
        same_calls = ap₂ (λ x l. x ∷ l) going.called going.ran.same_calls;
        count_is = going.ran.count_is;
      },
      none_after_end s past e t (going.ran.legal, h) going.alone refl,
    )

refuse_on : (s : Configuration) (past : List Entry) (t : ℕ) (c : Call) (before : List Call) (count : ℕ) (code : ℕ)
    → Going s past t c before count
    → next_of s past t ≡ Raises code → s.rules.limits.asks ≡ AtCommit
    → (after : List Entry) × Ran s after (c ∷ before) count × NoneLive after
refuse_on s past t c before count code going next at =
    let some = some_reply_is_legal s past (Commit t) in
    elim (subst (λ a. RaisedCommit a past t code some.0) at
    (subst (λ n. CommitReply s past t n some.0) next (of_live past t some.0 _ going.alone.is_live some.1))) [
      | inl w ↦ absurd (waits_for_none past t going.alone w.predecessor w.least.pair)
      | inr m ↦
          let e : Entry = record { event = Commit t; reply = some.0 } in (
            e ∷ past,
            record {
              legal = (going.ran.legal, some.1);
              one_by_one = (going.ran.one_by_one, inr (t, going.alone, inl (inr refl)));
              same_calls = ap (λ r. reported_call_in past (Commit t) r ++ reported_calls past) m.is
                  ∙ ap₂ (λ x l. x ∷ l) going.called going.ran.same_calls;
              count_is = ap (λ r. cond (is_start r) (start_count past + 1) (start_count past)) m.is ∙ going.ran.count_is;
            },
            none_after_end s past e t (going.ran.legal, some.1) going.alone (ap is_ending m.is),
          )
    ]

-- a call that goes through is run to its end
finish : (s : Configuration) (past : List Entry) (t : ℕ) (c : Call) (before : List Call) (count : ℕ)
    → Going s past t (with_caller_accesses [] c) before count
    → IsEnd (next_of s past t) → GoesThrough s c (run_in_turn s before).last
    → (after : List Entry) × Ran s after (c ∷ before) count × NoneLive after
finish s past t c before count going end through = by_next (next_of s past t) refl end
  where
    m : Contents
    m = (run_in_turn s before).last

    done : (answers : List ℤ) → next_of s past t ≡ Ends answers → IsDone (serial (run_of s.rules c) m)
    done answers next = subst₂ (λ (q : Call) l. IsDone (outcome_in s.rules q (run_in_turn s l).last)) going.called going.ran.same_calls
        (done_in_turn s past going.ran.legal t going.alone answers next)

    raised : (code : ℕ) → next_of s past t ≡ Raises code → serial (run_of s.rules c) m ≡ Asked code
    raised code next = subst₂ (λ (q : Call) l. serial (run_of s.rules q)
        (run_in_turn s l).last ≡ Asked code) going.called going.ran.same_calls
        (raises_in_turn s past going.ran.legal t going.alone code next)

    ended : (answers : List ℤ) → next_of s past t ≡ Ends answers → GoesThrough s c m
        → (after : List Entry) × Ran s after (c ∷ before) count × NoneLive after
    ended answers next (inl goes) =
        let all = requests_on s past t c before count answers c.caller_accesses going next goes in
        commit_on s all.0 t c before count answers all.1 all.2
    ended answers next (inr (at, none, (code, asked))) = absurd (subst IsDone asked (done answers next))

    by_code : (code : ℕ) → next_of s past t ≡ Raises code → GoesThrough s c m
        → (after : List Entry) × Ran s after (c ∷ before) count × NoneLive after
    by_code code next (inl goes) = absurd (raises_not_done c.caller_accesses (serial (run_of s.rules c) m) code (raised code next) goes)
    by_code code next (inr (at, none, rest)) =
        refuse_on s past t c before count code (subst (λ xs. Going s past t (with_caller_accesses xs c) before count)
        (sym none) going) next at

    by_next : (n : Next) → next_of s past t ≡ n → IsEnd (next_of s past t)
        → (after : List Entry) × Ran s after (c ∷ before) count × NoneLive after
    by_next (Looks k) next end = absurd (subst IsEnd next end)
    by_next (Puts k v) next end = absurd (subst IsEnd next end)
    by_next (Ends answers) next end = ended answers next through
    by_next (Raises code) next end = by_code code next through

-- ---- a call is started

-- one that was not started has made no accesses
pub none_made : (s : Configuration) (past : List Entry) → Legal s past → (t : ℕ) → start_count past ≤ t → caller_accesses past t ≡ []
none_made s past legal t unstarted =
    let p = plays s past t legal in
    p.caller_accesses_are ∙ ap (map caller_access_of) (none_first p.more p.own (sym p.all_are ∙ acts_unstarted s past t legal unstarted))
  where
    none_first : (more own : List Access) → more ++ own ≡ [] → more ≡ []
    none_first [] own e = refl
    none_first (a ∷ more) own e = absurd (cc e)

t_true : (b : Bool) → T b → b ≡ true
t_true true h = refl
t_true false h = absurd h

all_values : (args : List ℤ) → All IsValue args → list_all is_value args ≡ true
all_values [] h = refl
all_values (v ∷ args) h = let a = All-head IsValue v args h in
    and_from _ _ (and_from _ _ (t_true _ a.0.le) (t_true _ a.1.le)) (all_values args (All-tail IsValue v args h))

pub starts : (s : Configuration) (c : Call) (started living : ℕ) → IsAdmitted s c → started < s.rules.limits.begins
    → living < s.rules.limits.live
    → start_reply s.rules started living c.procedure c.args ≡ reply.Started started
starts s c started living admitted some_begin some_live =
    let fits : args_fit (length c.args) c.args ≡ true = and_from _ _ (eq-eqb (length c.args) (length c.args) refl)
    (all_values c.args admitted.values) in
    let not_spent : nat_eq started s.rules.limits.begins ≡ false = ne_eqb started s.rules.limits.begins (λ q. omega arith) in
    let not_full : nat_eq living s.rules.limits.live ≡ false = ne_eqb living s.rules.limits.live (λ q. omega arith) in
    ap (λ o. taken_reply s.rules.limits started living o c.args) admitted.known
    ∙ (ap (λ b. cond b (capacity_reply s.rules.limits started living) reply.BadArgs) fits
    ∙ (ap (λ b. cond b reply.Spent (cond (nat_eq living s.rules.limits.live) reply.Full (reply.Started started))) not_spent
    ∙ ap (λ b. cond b reply.Full (reply.Started started)) not_full))

pub none_listed : (past : List Entry) → NoneLive past → live_ones past ≡ []
none_listed past none = go (live_ones past) (λ t m. (member_kept (live past) t (started_ones past) m).0)
  where
    go : (l : List ℕ) → ((t : ℕ) → Member t l → live past t ≡ true) → l ≡ []
    go [] h = refl
    go (t ∷ l) h = absurd (both_ways _ (none t) (h t (inl refl)))

run_one : (s : Configuration) (past : List Entry) (c : Call) (before : List Call) (count : ℕ) → Ran s past before count
    → NoneLive past → IsAdmitted s c
    → count < s.rules.limits.begins → 1 ≤ s.rules.limits.live → GoesThrough s c (run_in_turn s before).last
    → (after : List Entry) × Ran s after (c ∷ before) (count + 1) × NoneLive after
run_one s past c before count ran none admitted capacity one through =
    let n : ℕ = start_count past in
    let e : Entry = record { event = Start c.procedure c.args; reply = reply.Started n } in
    let living : length (live_ones past) ≡ 0 = ap length (none_listed past none) in
    let counted = ran.count_is in
    let legal : Legal s (e ∷ past) = (ran.legal, sym (starts s c n (length (live_ones past)) admitted (omega arith) (omega arith))) in
    let call : call_of (e ∷ past) n ≡ with_caller_accesses [] c = ap
    (λ b. unwrap_or (cond b (Some (with_caller_accesses [] c)) None) (call_of past n)) (eq-eqb n n refl) in
    let going : Going s (e ∷ past) n (with_caller_accesses [] c) before (count + 1) = record {
      ran = record {
        legal = legal;
        one_by_one = (ran.one_by_one, inl none);
        same_calls = ran.same_calls;
        count_is = ap (λ m. m + 1) counted;
      };
      alone = started_alone s past e legal none n refl;
      called = ap₂ with_caller_accesses (none_made s past ran.legal n (omega arith)) call;
    } in
    let at_end = to_end (accesses_left s (e ∷ past) n) s (e ∷ past) n (with_caller_accesses [] c) before (count + 1) going (omega arith) in
    finish s at_end.0 n c before (count + 1) at_end.1 at_end.2 through

run_all : (s : Configuration) → 1 ≤ s.rules.limits.live → (all : List Call) → AreAdmitted s all → length all ≤ s.rules.limits.begins
    → AllGoThrough s all → (after : List Entry) × Ran s after all (length all) × NoneLive after
run_all s one [] admitted few through = (
  [],
  record { legal = tt; one_by_one = tt; same_calls = refl; count_is = refl },
  λ u. false_from_ne_true (live [] u) (λ alive. let started = live-started [] u alive in omega arith),
)
run_all s one (c ∷ before) admitted few through =
    let rest = run_all s one before admitted.0 (omega arith) through.0 in
    let last = run_one s rest.0 c before (length before) rest.1 rest.2 admitted.1 (omega arith) one through.1 in
    (last.0, subst (Ran s last.0 (c ∷ before)) (omega arith) last.1, last.2)

pub reruns_agree : RerunsAgree
reruns_agree s past legal one =
    let all = run_all s one (reported_calls past) (committed_admitted s past legal) (reported_few s past legal)
    (all_go_through s past legal) in (
      record { again = all.0; legal = all.1.legal; one_by_one = all.1.one_by_one; none_live = all.2; same_calls = all.1.same_calls },
      calls_decide s all.0 past all.1.legal legal all.1.same_calls,
    )

-- the replies are forced

no_cycle_abort : (s : Configuration) (past : List Entry) (e : Entry) → Legal s (e ∷ past)
    → NoneLive past ⊎ ((t : ℕ) × IsAlone past t × IsNoQuitOf e.event t)
    → (cycle fell : List ℕ) → e.reply ≡ reply.Aborted (cause.Cycle cycle) fell → ⊥
no_cycle_abort s past e legal (inl none) cycle fell is =
    let w = endings_end_one s past e legal (ap is_ending is) in both_ways _ (none w.0) w.2
no_cycle_abort s past e legal (inr (t, alone, asks)) cycle fell is =
    both_ways (is_hindered e.reply) (alone_is_not_aborted s past legal.0 t alone e.event asks e.reply legal.1) (ap is_hindered is)

one_reply : (s : Configuration) (past : List Entry) (e f : Entry) → Legal s (e ∷ past)
    → NoneLive past ⊎ ((t : ℕ) × IsAlone past t × IsNoQuitOf e.event t)
    → LegalReply s past f.event f.reply → f.event ≡ e.event → f ≡ e
one_reply s past e f legal one h same =
    let k : LegalReply s past e.event f.reply = subst (λ v. LegalReply s past v f.reply) same h in
    elim (replies_are_unique s past e.event e.reply f.reply legal.1 k) [
      | inl q ↦ ap₂ (λ (v : Event) (r : Reply). record { event = v; reply = r }) same (sym q)
      | inr d ↦ absurd (no_cycle_abort s past e legal one d.cycle d.fell d.one)
    ]

events_first : (x y : Event) (xs ys : List Event) → x ∷ xs ≡ y ∷ ys → (x ≡ y) × (xs ≡ ys)
events_first x y xs ys e = (cc, cc)

pub one_by_one_is_forced : OneByOneIsForced
one_by_one_is_forced s [] [] one legal also same = refl
one_by_one_is_forced s [] (f ∷ other) one legal also same = absurd (cc)
one_by_one_is_forced s (e ∷ again) [] one legal also same = absurd (cc)
one_by_one_is_forced s (e ∷ again) (f ∷ other) one legal also same =
    let parts = events_first f.event e.event _ _ same in
    let rest = one_by_one_is_forced s again other one.0 legal.0 also.0 parts.1 in
    ap₂ (λ (x : Entry) (l : List Entry). x ∷ l)
    (one_reply s again e f legal one.1 (subst (λ l. LegalReply s l f.event f.reply) rest also.1) parts.0) rest
