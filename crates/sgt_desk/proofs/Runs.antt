-- Turns of a run: its start, and what is left of its attempt.
use Rattle.std.proofs.Common.{◌≡◌, ◌⊎◌, ℕ, ◌+◌, ◌<◌, ℤ, Bool, true, false, cond, nat_eq, List, [], ◌∷◌, length, Option, Some, None, refl, sym, ap, subst, ◌∙◌, inl, inr, arith}
use Rattle.std.specs.Option.{unwrap_or}
use Rattle.std.proofs.lemmas.Bool.{eq-eqb}
use Rattle.sgt_model.specs.declared.entry.Entry.{Entry}
use Rattle.sgt_model.specs.declared.event.Event.TheVariants.{Start, Commit}
use Rattle.sgt_model.specs.declared.limits.Limits.{Limits}
use Rattle.sgt_model.specs.declared.reply.Reply.{Reply}
use Rattle.sgt_model.specs.declared.reply.Reply.TheVariants as reply
use Rattle.sgt_model.specs.declared.short_reply.ShortReply.{ShortReply}
use Rattle.sgt_model.specs.declared.short_reply.ShortReply.TheVariants as bare
use Rattle.sgt_model.specs.Configurations.{Configuration, takes}
use Rattle.sgt_model.specs.Fates.{is_start, live, live_ones, start_count}
use Rattle.sgt_model.specs.Legality.{Legal}
use Rattle.sgt_model.specs.Progress.{call_of}
use Rattle.sgt_model.specs.ShortReplies.{short_reply}
use Rattle.sgt_model.specs.StartReply.{args_fit, capacity_reply, taken_reply}
use Rattle.sgt_model.proofs.Effects.{Effect, effect, idle, begins, accesses, commits, undoes, refuses}
use Rattle.sgt_model.proofs.Questions.{started_are_live}
use Rattle.sgt_progress.specs.Waits.{was_told_to_wait}
use Rattle.sgt_progress.proofs.Waits.{waits_stay_ready}
use Rattle.sgt_desk.specs.declared.ask.Deadline.{Deadline}
use Rattle.sgt_desk.specs.declared.reason.Reason.{Reason}
use Rattle.sgt_desk.specs.declared.reason.Reason.TheVariants.{Turn, Full, End, Busy, Cut}
use Rattle.sgt_desk.specs.declared.running.Run.{Run}
use Rattle.sgt_desk.specs.Asks.{IsLate, IsNewest, has_come, is_held, is_of_cut}
use Rattle.sgt_desk.specs.Attempts.{AsksStart, IsNotOver, MayCommit}
use Rattle.sgt_desk.specs.Desks.{Adds, DeskState, SameHistory}
use Rattle.sgt_desk.specs.Engines.{Answered}
use Rattle.sgt_desk.specs.Runs.{GaveUp, GoesOn, Grows, LateWhy, OverMeanwhile, RestsFor, is_conflict}
use Rattle.sgt_desk.proofs.Attempts.{grows_longer, legal_as_before}
use Rattle.sgt_desk.proofs.Starts.{full_count}

-- ---- a start

started_is : (r : Reply) (t : ℕ) → short_reply r ≡ bare.Started t → r ≡ reply.Started t
started_is (reply.Started u) t e = ap reply.Started (cc e)
started_is reply.NoProcedure t e = absurd (cc e)
started_is reply.BadArgs t e = absurd (cc e)
started_is reply.Spent t e = absurd (cc e)
started_is reply.Full t e = absurd (cc e)
started_is reply.Unknown t e = absurd (cc e)
started_is (reply.Over f) t e = absurd (cc e)
started_is (reply.Looked k v) t e = absurd (cc e)
started_is (reply.Wrote k v) t e = absurd (cc e)
started_is reply.Ended t e = absurd (cc e)
started_is reply.NotEnded t e = absurd (cc e)
started_is (reply.Waits u) t e = absurd (cc e)
started_is (reply.Committed answers) t e = absurd (cc e)
started_is (reply.Aborted why fell) t e = absurd (cc e)
started_is (reply.Refused code fell) t e = absurd (cc e)

number_is : (s : Configuration) (p : ℕ) (args : List ℤ) (past : List Entry) (t : ℕ) → Effect s past (Start p args) (reply.Started t) → t ≡ start_count past
number_is s p args past t (idle i) = absurd (cc i.no_start)
number_is s p args past t (begins b) = cc b.reply_is
number_is s p args past t (accesses x) = absurd (cc x.no_start)
number_is s p args past t (commits x) = absurd (cc x.event_is)
number_is s p args past t (undoes x) = absurd (cc x.reply_is)
number_is s p args past t (refuses x) = absurd (cc x.event_is)

module _ (s : Configuration) (p : ℕ) (args : List ℤ) (before after : List Entry) (t : ℕ) (it : Answered s (Start p args) before (bare.Started t) after) where
  abbrev entry : Entry
  entry = record { event = Start p args; reply = reply.Started t }

  pub start_adds : after ≡ entry ∷ before
  start_adds = it.adds ∙ ap (λ r. record { event = Start p args; reply = r } ∷ before) (started_is it.reply t it.is_short)

  pub start_number : t ≡ start_count before
  start_number = number_is s p args before t (subst (λ r. Effect s before (Start p args) r) (started_is it.reply t it.is_short)
      (effect s before (Start p args) it.reply it.legal))

  pub start_counted : start_count after ≡ start_count before + 1
  start_counted = ap start_count start_adds

  pub start_live : Legal s after → live after t ≡ true
  start_live legal = subst (λ l. live l t ≡ true) (sym start_adds) (started_are_live s before entry (subst (Legal s) start_adds legal) t refl)

  pub start_call : call_of after t ≡ record { procedure = p; args = args; caller_accesses = [] }
  start_call = ap (λ l. call_of l t) start_adds
      ∙ ap (λ b. unwrap_or (cond b (Some (record { procedure = p; args = args; caller_accesses = [] })) None) (call_of before t)) (eq-eqb t t refl)

not_started : (r : Reply) (short : ShortReply) → short_reply r ≡ short → ((t : ℕ) → short ≡ bare.Started t → ⊥) → is_start r ≡ false
not_started (reply.Started t) short is never = absurd (never t (sym is))
not_started _ short is never = refl

-- its reply does not say that a transaction had ended

abbrev is_over_reply : Reply → Bool
is_over_reply (reply.Over f) = true
is_over_reply _ = false

module _ (limits : Limits) (begun living : ℕ) where
  capacity_not_over : (spent full : Bool) → is_over_reply (cond spent reply.Spent (cond full reply.Full (reply.Started begun))) ≡ false
  capacity_not_over true full = refl
  capacity_not_over false true = refl
  capacity_not_over false false = refl

  fit_not_over : (fits : Bool) → is_over_reply (cond fits (capacity_reply limits begun living) reply.BadArgs) ≡ false
  fit_not_over true = capacity_not_over (nat_eq begun limits.begins) (nat_eq living limits.live)
  fit_not_over false = refl

  taken_not_over : (taken : Option ℕ) (args : List ℤ) → is_over_reply (taken_reply limits begun living taken args) ≡ false
  taken_not_over None args = refl
  taken_not_over (Some count) args = fit_not_over (args_fit count args)

not_over_short : (r : Reply) (short : ShortReply) → short_reply r ≡ short → is_over_reply r ≡ false → IsNotOver short
not_over_short (reply.Over f) short is never = absurd (over_not never)
  where
    over_not : is_over_reply (reply.Over f) ≡ false → ⊥
    over_not e = cc e
not_over_short (reply.Started t) short is never = subst IsNotOver is tt
not_over_short reply.NoProcedure short is never = subst IsNotOver is tt
not_over_short reply.BadArgs short is never = subst IsNotOver is tt
not_over_short reply.Spent short is never = subst IsNotOver is tt
not_over_short reply.Full short is never = subst IsNotOver is tt
not_over_short reply.Unknown short is never = subst IsNotOver is tt
not_over_short (reply.Looked k v) short is never = subst IsNotOver is tt
not_over_short (reply.Wrote k v) short is never = subst IsNotOver is tt
not_over_short reply.Ended short is never = subst IsNotOver is tt
not_over_short reply.NotEnded short is never = subst IsNotOver is tt
not_over_short (reply.Waits t) short is never = subst IsNotOver is tt
not_over_short (reply.Committed answers) short is never = subst IsNotOver is tt
not_over_short (reply.Aborted why fell) short is never = subst IsNotOver is tt
not_over_short (reply.Refused code fell) short is never = subst IsNotOver is tt

pub start_not_over : (s : Configuration) (p : ℕ) (args : List ℤ) (before after : List Entry) (short : ShortReply)
    → Answered s (Start p args) before short after → IsNotOver short
start_not_over s p args before after short it = not_over_short it.reply short it.is_short (ap is_over_reply it.legal
    ∙ taken_not_over s.rules.limits (start_count before) (length (live_ones before)) (takes s.rules p) args)

-- what it leaves, together
pub asked_start : (p : ℕ) (args : List ℤ) (before after : DeskState) (short : ShortReply) → Adds (Start p args) before short after
    → Legal after.configuration after.past → AsksStart p args before short after
asked_start p args before after short adds legal =
    let s = before.configuration in
    let it = adds.entry.answered in record {
      adds = adds;
      begun = λ t is. let start = subst (λ r. Answered s (Start p args) before.past r after.past) is it in record {
        is = start_adds s p args before.past after.past t start;
        number = start_number s p args before.past after.past t start;
        counted = start_counted s p args before.past after.past t start;
        live_now = start_live s p args before.past after.past t start (legal_as_before before after adds.entry.configuration legal);
        call = start_call s p args before.past after.past t start;
      };
      refused = λ never. record { reply = it.reply; nothing = not_started it.reply short it.is_short never; is = it.adds };
      full = λ is. full_count s p args before.past after.past short it is ∙ ap (λ c. c.rules.limits.live) (sym adds.entry.configuration);
      not_over = start_not_over s p args before.past after.past short it;
    }

-- ---- the attempt that it began

-- a reply that does not say that its transaction had ended
pub not_meanwhile : (attempt : Option ℕ) (past : List Entry) (short : ShortReply) → IsNotOver short → OverMeanwhile attempt past short
not_meanwhile attempt past (bare.Over f) never = absurd never
not_meanwhile attempt past _ never = tt

-- it had to wait, and not for a reason of earlier turns
gave_up_now : (t : ℕ) (old reason : Option Reason) (past : List Entry) → old ≡ None → GaveUp t old past → GaveUp t reason past
gave_up_now t old reason past none it = record {
  other = it.other;
  reply = it.reply;
  before = it.before;
  is = it.is;
  both_live = it.both_live;
  waits = now it.waits;
}
  where
    now : (old ≡ Some (Turn t it.other)) ⊎ IsNewest (Commit t) (bare.Waits it.other) it.before
        → (reason ≡ Some (Turn t it.other)) ⊎ IsNewest (Commit t) (bare.Waits it.other) it.before
    now (inl same) = absurd (cc (sym none ∙ same))
    now (inr told) = inr told

-- ---- what was added makes the history longer

pub longer : {before after : List Entry} {e : Entry} → after ≡ e ∷ before → length before < length after
longer {before} {after} {e} is = let one = ap length is in omega (arith, one)

pub start_longer : (quits : Bool) (t : ℕ) (e : Entry) (before mid after : List Entry) → mid ≡ e ∷ before → Grows quits t mid after
    → length before < length after
start_longer quits t e before mid after is grows =
    let one = ap length is in
    let more = grows_longer quits t mid after grows in omega (arith, one, more)

-- ---- why a turn is late, by why one of its attempt is

module _ (now t : ℕ) (run next : Run) (after : DeskState) (deadline : Deadline) (reason : Option Reason) (same : deadline ≡ run.ask.deadline)
    (w : ((is_conflict next.ask.reply ≡ true) × IsLate deadline now next.ask.reason after)
    ⊎ ((has_come deadline now ≡ true) × GaveUp t reason after.past)) where
  late_by : (GaveUp t reason after.past → GaveUp t run.ask.reason after.past) → LateWhy now run after next
  late_by any = by_case w
    where
      by_case : ((is_conflict next.ask.reply ≡ true) × IsLate deadline now next.ask.reason after)
          ⊎ ((has_come deadline now ≡ true) × GaveUp t reason after.past) → LateWhy now run after next
      by_case (inl v) = inr (inl (subst (λ d. IsLate d now next.ask.reason after) same v.1, inr v.0))
      by_case (inr v) = inr (inr (subst (λ d. has_come d now ≡ true) same v.0, (t, any v.1)))

  -- it began in this turn
  pub late_from_start : reason ≡ None → LateWhy now run after next
  late_from_start none = late_by (gave_up_now t reason run.ask.reason after.past none)

  -- or it has rested
  pub late_from_rest : reason ≡ run.ask.reason → LateWhy now run after next
  late_from_rest is = late_by (λ g. subst (λ r. GaveUp t r after.past) is g)

-- an attempt that rested may go on with its commit
pub may_commit : (d : DeskState) (run : Run) (t : ℕ) → GoesOn d run → run.attempt ≡ Some t → MayCommit d t run.ask.reason
may_commit d run t on is = record { ready = waits_stay_ready d.configuration d.past on.legal t (told run.ask.reason rests); rests = inr rests }
  where
    rests : RestsFor d (Some t) run.ask.reason
    rests = subst (λ a. RestsFor d a run.ask.reason) is on.rests

    told : (r : Option Reason) → RestsFor d (Some t) r → was_told_to_wait d.past t ≡ true
    told (Some (Turn u v)) h = h.2
    told (Some (Full n)) h = absurd h
    told (Some (End n)) h = absurd h
    told (Some (Busy n)) h = absurd h
    told (Some Cut) h = absurd h
    told None h = absurd h

-- ---- a turn after which the calls that rest are counted anew

rests_as_before : (d e : DeskState) → e.configuration ≡ d.configuration → e.past ≡ d.past → (attempt : Option ℕ) (reason : Option Reason)
    → RestsFor d attempt reason → RestsFor e attempt reason
rests_as_before d e same past (Some t) (Some (Turn u v)) h = (h.0, h.1, subst (λ l. was_told_to_wait l t ≡ true) (sym past) h.2)
rests_as_before d e same past (Some t) (Some (Full n)) h = h
rests_as_before d e same past (Some t) (Some (End n)) h = h
rests_as_before d e same past (Some t) (Some (Busy n)) h = h
rests_as_before d e same past (Some t) (Some Cut) h = h
rests_as_before d e same past (Some t) None h = h
rests_as_before d e same past None (Some (Turn u v)) h = h
rests_as_before d e same past None (Some (Full n)) h = h ∙ ap (λ c. c.rules.limits.live) (sym same)
rests_as_before d e same past None (Some (End n)) h = h
rests_as_before d e same past None (Some (Busy n)) h = h
rests_as_before d e same past None (Some Cut) h = h
rests_as_before d e same past None None h = h

rests_for_no_cut : (d : DeskState) (attempt : Option ℕ) (reason : Option Reason) → RestsFor d attempt reason → is_of_cut reason ≡ false
rests_for_no_cut d attempt (Some (Turn u v)) h = refl
rests_for_no_cut d attempt (Some (Full n)) h = refl
rests_for_no_cut d attempt (Some (End n)) h = refl
rests_for_no_cut d (Some t) (Some (Busy n)) h = absurd h
rests_for_no_cut d None (Some (Busy n)) h = absurd h
rests_for_no_cut d attempt (Some Cut) h = refl
rests_for_no_cut d attempt None h = refl

module _ (d e : DeskState) (run next : Run) (history : SameHistory d e) (attempt : next.attempt ≡ run.attempt) (reason : next.ask.reason ≡ run.ask.reason) where
  pub counted_goes_on : GoesOn d run → GoesOn e next
  counted_goes_on on = record {
    legal = subst (λ s. Legal s e.past) (sym history.configuration) (subst (λ l. Legal d.configuration l) (sym history.past) on.legal);
    rests = subst (λ a. RestsFor e a next.ask.reason) (sym attempt) (subst (λ r. RestsFor e run.attempt r) (sym reason)
        (rests_as_before d e history.configuration history.past run.attempt run.ask.reason on.rests));
  }

  pub counted_late : (now : ℕ) (first : Run) → next.ask.reply ≡ run.ask.reply → GoesOn d run
      → ((r : Option Reason) → is_of_cut r ≡ false → is_held r d ≡ true → is_held r e ≡ true) → LateWhy now first d run → LateWhy now first e next
  counted_late now first reply on stays (inl w) = inl w
  counted_late now first reply on stays (inr (inl w)) = inr (inl (
    record {
      over = w.0.over;
      held = subst (λ r. is_held r e ≡ true) (sym reason)
          (stays run.ask.reason (rests_for_no_cut d run.attempt run.ask.reason on.rests) w.0.held);
    },
    again w.1,
  ))
    where
      again : (first.attempt ≡ None) ⊎ (is_conflict run.ask.reply ≡ true) → (first.attempt ≡ None) ⊎ (is_conflict next.ask.reply ≡ true)
      again (inl none) = inl none
      again (inr conflict) = inr (ap is_conflict reply ∙ conflict)
  counted_late now first reply on stays (inr (inr w)) =
      inr (inr (w.0, (w.1.0, subst (λ l. GaveUp w.1.0 first.ask.reason l) (sym history.past) w.1.1)))
