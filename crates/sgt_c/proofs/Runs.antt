-- A run, entry by entry: which transactions are live meanwhile, and which steps were made.
use Rattle.std.proofs.Common.{◌≡◌, ℕ, ◌+◌, ℤ, Bool, true, false, cond, ◌&&◌, ◌||◌, List, [], ◌∷◌, length, Option, Some, None, nat_eq, nat_lt, is_none, refl, sym, ap, subst, ◌∙◌, arith}
use Rattle.std.specs.List.{All}
use Rattle.std.specs.Prelude.{Result, Ok, Err, OnErr, IfSome}
use Rattle.std.proofs.lemmas.Bool.{lt-ltb}
use Rattle.std.proofs.lemmas.List.Elements.{All-cons, All-weaker}
use Rattle.sgt_model.specs.declared.entry.Entry.{Entry}
use Rattle.sgt_model.specs.declared.event.Event.{Event}
use Rattle.sgt_model.specs.declared.event.Event.TheVariants.{Start, Step, Commit, Quit}
use Rattle.sgt_model.specs.declared.limits.Limits.{Limits}
use Rattle.sgt_model.specs.declared.reply.Reply.{Reply}
use Rattle.sgt_model.specs.declared.reply.Reply.TheVariants as reply
use Rattle.sgt_model.specs.declared.short_reply.ReplyLists.{ReplyLists}
use Rattle.sgt_model.specs.declared.short_reply.ShortReply.{ShortReply}
use Rattle.sgt_model.specs.declared.short_reply.ShortReply.TheVariants as bare
use Rattle.sgt_model.specs.Fates.{fate_of, is_start, live, live_ones, start_count}
use Rattle.sgt_model.specs.Legality.{Legal, LegalReply}
use Rattle.sgt_model.specs.Questions.{started_in}
use Rattle.sgt_model.specs.Configurations.{Configuration, takes}
use Rattle.sgt_model.specs.ShortReplies.{full_reply, reply_with, short_reply}
use Rattle.sgt_model.specs.StartReply.{args_fit, capacity_reply, taken_reply}
use Rattle.sgt_model.proofs.Facts.{unstarted-no_fate}
use Rattle.sgt_engine.specs.EngineView.{Answers, EngineView, HasLists, newest_reply, configuration_of, with_entry}
use Rattle.sgt_c.specs.Runs.{CommitsIf, GivesUp, IsAccess, IsStep, Runs, RunsOn, RunsOnTo, RunsTo, StepsTo, StopsLive, any_write, is_access, is_end, is_write, with_entries}
use Rattle.sgt_c.proofs.Replies.{started_in_short, start_without}

-- ---- who is live

-- the reply to a start is the number of earlier starts
module _ (limits : Limits) (begun living t : ℕ) where
  capacity_number : (spent full : Bool) → cond spent reply.Spent (cond full reply.Full (reply.Started begun)) ≡ reply.Started t → t ≡ begun
  capacity_number true full e = absurd cc
  capacity_number false true e = absurd cc
  capacity_number false false e = cc

  fit_number : (fits : Bool) → cond fits (capacity_reply limits begun living) reply.BadArgs ≡ reply.Started t → t ≡ begun
  fit_number true e = capacity_number (nat_eq begun limits.begins) (nat_eq living limits.live) e
  fit_number false e = absurd cc

  taken_number : (taken : Option ℕ) (args : List ℤ) → taken_reply limits begun living taken args ≡ reply.Started t → t ≡ begun
  taken_number None args e = absurd cc
  taken_number (Some count) args e = fit_number (args_fit count args) e

-- the reply to a start, again: whatever the event is
pub start_number : (s : Configuration) (past : List Entry) (event : Event) (r : Reply) (t : ℕ) → LegalReply s past event r → started_in event r ≡ Some t
    → t ≡ start_count past
start_number s past (Start p args) (reply.Started u) t reported is =
    taken_number s.rules.limits (start_count past) (length (live_ones past)) t (takes s.rules p) args
    (sym reported ∙ ap reply.Started (one u t is))
  where
    one : (u t : ℕ) → Some u ≡ Some t → u ≡ t
    one u t e = cc
start_number s past (Start p args) _ t reported is = absurd cc
start_number s past _ r t reported is = absurd cc

both_true : (a b : Bool) → a ≡ true → b ≡ true → (a && b) ≡ true
both_true a b p q = rw (p, q) refl

-- a transaction that was started is live
pub started_live : (s : Configuration) (past : List Entry) (p : ℕ) (args : List ℤ) (t : ℕ) → Legal s past
    → LegalReply s past (Start p args) (reply.Started t)
    → live (record { event = Start p args; reply = reply.Started t } ∷ past) t ≡ true
started_live s past p args t legal reported =
    both_true (nat_lt t (start_count past + 1)) (is_none (fate_of past t)) (lt-ltb t (start_count past + 1) (omega (arith, n)))
    (ap is_none (unstarted-no_fate s past legal t (omega (arith, n))))
  where
    n : t ≡ start_count past
    n = taken_number s.rules.limits (start_count past) (length (live_ones past)) t (takes s.rules p) args (sym reported)

-- a step that makes an access, or finds the procedure ended, ends no transaction
module _ (past : List Entry) (t : ℕ) where
  pub access_live : (r : Reply) → is_access (short_reply r) ≡ true → live (record { event = Step t; reply = r } ∷ past) t ≡ live past t
  access_live (reply.Looked k v) a = refl
  access_live (reply.Wrote k v) a = refl
  access_live _ a = absurd cc

  pub end_live : (r : Reply) → is_end (short_reply r) ≡ true → live (record { event = Step t; reply = r } ∷ past) t ≡ live past t
  end_live reply.Ended a = refl
  end_live _ a = absurd cc

-- ---- which steps were made

-- the transaction made only accesses, and is live
pub record Stepping (t : ℕ) (wrote : Bool) (e now : EngineView) : Type 0 where
  pub steps : List Entry
  pub wrote_is : wrote ≡ any_write steps
  pub accesses : All (IsAccess t) steps
  pub now_is : now ≡ with_entries steps e
  pub is_live : live now.past t ≡ true

module _ (t : ℕ) (wrote : Bool) (e now : EngineView) where
  -- one more access
  pub one_more : (r : Reply) (wrote_now : Bool) (after : EngineView) → Stepping t wrote e now → after ≡ with_entry (Step t) r now
      → is_access (short_reply r) ≡ true → wrote_now ≡ (is_write (short_reply r) || wrote) → Stepping t wrote_now e after
  one_more r wrote_now after s adds a w = record {
    steps = record { event = Step t; reply = r } ∷ s.steps;
    wrote_is = w ∙ ap (λ b. is_write (short_reply r) || b) s.wrote_is;
    accesses = All-cons (IsAccess t) (record { event = Step t; reply = r }) s.steps (refl, a) s.accesses;
    now_is = adds ∙ ap (with_entry (Step t) r) s.now_is;
    is_live = ap (λ (v : EngineView). live v.past t) adds ∙ access_live now.past t r a ∙ s.is_live;
  }

  -- the same from the short reply
  pub one_more_in_short : (short : ShortReply) (wrote_now : Bool) (after : EngineView) → Stepping t wrote e now
      → Answers (Step t) now short after → is_access short ≡ true → wrote_now ≡ (is_write short || wrote) → Stepping t wrote_now e after
  one_more_in_short short wrote_now after s a access w =
      one_more a.reply wrote_now after s a.adds (ap is_access a.is_short ∙ access) (w ∙ ap (λ b. is_write b || wrote) (sym a.is_short))

  -- a step that makes none
  pub steps_to : (short : ShortReply) (after : EngineView) → Stepping t wrote e now → Answers (Step t) now short after
      → is_access short ≡ false → StepsTo t wrote short e after
  steps_to short after s a none = (
    a.reply,
    a.is_short,
    (s.steps, s.accesses, ap is_access a.is_short ∙ none, s.wrote_is, a.adds ∙ ap (with_entry (Step t) a.reply) s.now_is),
  )

  -- if it finds the procedure ended, the transaction is live
  pub at_end : (short : ShortReply) (after : EngineView) → Stepping t wrote e now → Answers (Step t) now short after
      → is_end short ≡ true → live after.past t ≡ true
  at_end short after s a ended =
      ap (λ (v : EngineView). live v.past t) a.adds ∙ end_live now.past t a.reply (ap is_end a.is_short ∙ ended) ∙ s.is_live

  -- out of memory for the next step
  pub stopped : (after : EngineView) → Stepping t wrote e now → after ≡ now → StopsLive t e after
  stopped after s same = (
    s.steps,
    All-weaker (IsAccess t) (IsStep t) (λ x a. a.0) s.steps s.accesses,
    same ∙ s.now_is,
    ap (λ (v : EngineView). live v.past t) same ∙ s.is_live,
  )

  -- out of memory for the commit
  pub stopped_at_end : (short : ShortReply) (after : EngineView) → StepsTo t wrote short e now → live now.past t ≡ true → after ≡ now
      → StopsLive t e after
  stopped_at_end short after (r, is_short, s) l same = (
    record { event = Step t; reply = r } ∷ s.0,
    All-cons (IsStep t) (record { event = Step t; reply = r }) s.0 refl (All-weaker (IsAccess t) (IsStep t) (λ x a. a.0) s.0 s.1),
    same ∙ s.4,
    ap (λ (v : EngineView). live v.past t) same ∙ l,
  )

-- ---- the run

-- what holds holds of an error
pub err_holds : {X E A : Type 0} (result : Result X E) → A → OnErr result A
err_holds (Ok x) a = tt
err_holds (Err e) a = a

-- a transaction that was started is live
pub run_live : (e after : EngineView) (p : ℕ) (args : List ℤ) (t : ℕ) → Answers (Start p args) e (bare.Started t) after
    → Legal (configuration_of after) after.past → live after.past t ≡ true
run_live e after p args t a legal =
    ap (λ (v : EngineView). live v.past t) reported ∙ started_live (configuration_of e) e.past p args t all.0 all.1
  where
    reported : after ≡ with_entry (Start p args) (reply.Started t) e
    reported = a.adds ∙ ap (λ r. with_entry (Start p args) r e) (started_in_short a.reply t a.is_short)

    all : Legal (configuration_of e) (record { event = Start p args; reply = reply.Started t } ∷ e.past)
    all = subst (λ (v : EngineView). Legal (configuration_of v) v.past) reported legal

-- a start, some steps and an abort (`quit`)
pub gave_up : (start : Event) (t : ℕ) (e begun stopped after : EngineView) → Answers start e (bare.Started t) begun
    → StopsLive t begun stopped → ((q : Reply) × (after ≡ with_entry (Quit t) q stopped))
    → (started : Option ℕ) × GivesUp start started e after
gave_up start t e begun stopped after a s q =
    (Some t, (s.0, s.1, q.0, q.1 ∙ ap (with_entry (Quit t) q.0) (s.2 ∙ ap (with_entries s.0) begins)))
  where
    begins : begun ≡ with_entry start (reply.Started t) e
    begins = a.adds ∙ ap (λ r. with_entry start r e) (started_in_short a.reply t a.is_short)

module _ (t : ℕ) (wrote : Bool) (e : EngineView) where
  -- steps that do not reach the end of the procedure
  pub ran_steps : (short : ShortReply) (after : EngineView) → StepsTo t wrote short e after → is_end short ≡ false
      → RunsOnTo t wrote short e after
  ran_steps short after (r, is_short, s) none =
      (r, is_short, (r, after, s, subst (λ b. CommitsIf b t r r after after) (sym (ap is_end is_short ∙ none)) (refl, refl)))

  -- steps to the end of the procedure, and the commit
  pub ran_to_commit : (short last : ShortReply) (stepped after : EngineView) → StepsTo t wrote short e stepped → is_end short ≡ true
      → Answers (Commit t) stepped last after → RunsOnTo t wrote last e after
  ran_to_commit short last stepped after (r, is_short, s) ended a =
      (a.reply, a.is_short, (r, stepped, s, subst (λ b. CommitsIf b t r a.reply stepped after) (sym (ap is_end is_short ∙ ended)) a.adds))

-- a start, and what follows it
pub ran_on : (start : Event) (t : ℕ) (wrote : Bool) (short : ShortReply) (e begun after : EngineView)
    → Answers start e (bare.Started t) begun → RunsOnTo t wrote short begun after → RunsTo start (Some t) wrote short e after
ran_on start t wrote short e begun after a (last, is_short, ran) = (
  last,
  is_short,
  subst (λ v. RunsOn t wrote last v after)
      (a.adds ∙ ap (λ r. with_entry start r e) (started_in_short a.reply t a.is_short)) ran,
)

-- a start that starts nothing
pub no_start : (start : Event) (short : ShortReply) (e after : EngineView) → Answers start e short after
    → is_start (full_reply short [] [] []) ≡ false → RunsTo start None false short e after
no_start start short e after a none =
    (a.reply, a.is_short, (start_without a.reply ∙ ap (λ s. is_start (full_reply s [] [] [])) a.is_short ∙ none, refl, a.adds))

-- ---- its last reply

module _ (t : ℕ) (r last : Reply) (stepped after : EngineView) (before : newest_reply stepped.past ≡ Some r) where
  newest_if : (ended : Bool) → CommitsIf ended t r last stepped after → newest_reply after.past ≡ Some last
  newest_if true commits = ap (λ (v : EngineView). newest_reply v.past) commits
  newest_if false stays = ap (λ (v : EngineView). newest_reply v.past) stays.1 ∙ before ∙ ap Some (sym stays.0)

-- it is the newest one of the history
newest : (start : Event) (started : Option ℕ) (wrote : Bool) (last : Reply) (e after : EngineView) → Runs start started wrote last e after
    → newest_reply after.past ≡ Some last
newest start None wrote last e after ran = ap (λ (v : EngineView). newest_reply v.past) ran.2
newest start (Some t) wrote last e after (r, stepped, s, commits) =
    newest_if t r last stepped after (ap (λ (v : EngineView). newest_reply v.past) s.4) (is_end (short_reply r)) commits

-- and these are its lists
pub last_with : (start : Event) (started : Option ℕ) (wrote : Bool) (short : ShortReply) (e after : EngineView) (lists : ReplyLists)
    → (ran : RunsTo start started wrote short e after) → HasLists after.past lists → ran.0 ≡ reply_with short lists
last_with start started wrote short e after lists ran has =
    subst (λ o. IfSome o (λ r. r ≡ reply_with (short_reply r) lists)) (newest start started wrote ran.0 e after ran.2) has
    ∙ ap (λ s. reply_with s lists) ran.1
