-- A run: attempts of one procedure with its arguments, until one ends otherwise than by a conflict.
use Rattle.std.specs.Prelude.{◌≡◌, ◌≢◌, ◌⊎◌, ℕ, ◌+◌, ℤ, ◌≤◌, ◌<◌, Bool, true, false, cond, nat_eq, nat_le, nat_lt, List, [], ◌∷◌, ◌++◌, Option, Some, None, Result, Ok, Err}
use Rattle.sgt_model.specs.declared.entry.Entry.{Entry}
use Rattle.sgt_model.specs.declared.errors.NoMemory.{NoMemory}
use Rattle.sgt_model.specs.declared.event.Event.{Event}
use Rattle.sgt_model.specs.declared.event.Event.TheVariants as event
use Rattle.sgt_model.specs.declared.reply.Reply.{Reply}
use Rattle.sgt_model.specs.declared.reply.Reply.TheVariants as reply
use Rattle.sgt_model.specs.declared.short_reply.ShortCause.TheVariants as why
use Rattle.sgt_model.specs.declared.short_reply.ShortFate.TheVariants as fate
use Rattle.sgt_model.specs.declared.short_reply.ShortReply.{ShortReply}
use Rattle.sgt_model.specs.declared.short_reply.ShortReply.TheVariants as bare
use Rattle.sgt_model.specs.Fates.{is_start, live, start_count}
use Rattle.sgt_model.specs.Legality.{Legal}
use Rattle.sgt_model.specs.Progress.{call_of}
use Rattle.sgt_model.specs.Questions.{named_by}
use Rattle.sgt_model.specs.ShortReplies.{short_reply}
use Rattle.sgt_progress.specs.Alone.{IsStepOrCommitOf}
use Rattle.sgt_progress.specs.Waits.{was_told_to_wait}
use Rattle.sgt_desk.specs.declared.ask.Deadline.{Deadline}
use Rattle.sgt_desk.specs.declared.ask.Deadline.TheVariants.{Never, AtOnce, At}
use Rattle.sgt_desk.specs.declared.ask.Ticket.{Ticket}
use Rattle.sgt_desk.specs.declared.ask.Turn.{Turn as TurnKind}
use Rattle.sgt_desk.specs.declared.ask.Turn.TheVariants as turn
use Rattle.sgt_desk.specs.declared.reason.Reason.{Reason}
use Rattle.sgt_desk.specs.declared.reason.Reason.TheVariants.{Turn, Full, End, Busy, Cut}
use Rattle.sgt_desk.specs.declared.running.Run.{Run}
use Rattle.sgt_desk.specs.Asks.{IsLate, IsNewest, has_come}
use Rattle.sgt_desk.specs.Desks.{DeskState, one_more}

-- the reply is of a conflict, so that the call is tried again
abbrev pub is_conflict : ShortReply → Bool
is_conflict (bare.Aborted why.Cycle) = true
is_conflict (bare.Over (fate.Fell u)) = true
is_conflict _ = false

-- no attempt may begin any more: the deadline has come. One that never rests has one attempt
abbrev pub is_over : Deadline → ℕ → ℕ → Bool
is_over Never tries now = false
is_over AtOnce tries now = nat_lt 0 tries
is_over (At at) tries now = nat_le at now

-- of the transaction of the attempt before, if there was one, and of those that were started from this number on, none is live
-- but that of the attempt now, if there is one
abbrev pub LeavesOnly : Option ℕ → ℕ → List Entry → Option ℕ → Type 0
LeavesOnly before number past attempt = (t : ℕ) → ((before ≡ Some t) ⊎ (number ≤ t)) → live past t ≡ true → attempt ≡ Some t

-- the transaction that a ticket names, if there is one
abbrev pub named : Option Ticket → Option ℕ
named None = None
named (Some k) = Some k.tid

-- the reply is that of the newest entry. If this names a transaction, it is the one of the ticket
abbrev pub IsOutcome : ShortReply → Option ℕ → List Entry → Type 0
IsOutcome short ticket [] = ⊥
IsOutcome short ticket (e ∷ past) = (short_reply e.reply ≡ short) × ((t : ℕ) → named_by e.event ≡ Some t → ticket ≡ Some t)

-- what a transaction was started with stays
abbrev pub KeepsCalls : List Entry → List Entry → Type 0
KeepsCalls before after = (u : ℕ) → u < start_count before → call_of after u ≡ call_of before u

-- at most one transaction was started, and if one was, it is counted, the ticket names it, and it runs this procedure with these
-- arguments
abbrev pub Begins : ℕ → List ℤ → DeskState → Run → DeskState → Run → Type 0
Begins p args before run after next = ((start_count after.past ≡ start_count before.past) × (next.tries ≡ run.tries))
    ⊎ ((start_count after.past ≡ start_count before.past + 1)
    × (next.tries ≡ one_more run.tries)
    × (next.ticket ≡ Some (record { part = before.part; tid = start_count before.past }))
    × (call_of after.past (start_count before.past) ≡ record { procedure = p; args = args; caller_accesses = [] }))

-- it is this transaction
abbrev pub is_named : Option ℕ → ℕ → Bool
is_named None t = false
is_named (Some u) t = nat_eq u t

-- the events that name this transaction, newest first
abbrev pub events_of : List Entry → ℕ → List Event
events_of [] t = []
events_of (e ∷ past) t = cond (is_named (named_by e.event) t) (e.event ∷ events_of past t) (events_of past t)

-- of all transactions but this one, nothing more was asked
abbrev pub RequestsOnly : Option ℕ → List Entry → List Entry → Type 0
RequestsOnly t before after = (u : ℕ) → is_named t u ≡ false → events_of after u ≡ events_of before u

-- why a run may rest: as before; since its attempt was just told for whom it waits; and, if it has no attempt, since as many are live as
-- the limits allow, until a transaction ends, counted from now, or for a cut
abbrev pub RunsWhy : DeskState → Option Reason → Option ℕ → ShortReply → Option Reason → Type 0
RunsWhy d before attempt short (Some (Turn t u)) =
    (before ≡ Some (Turn t u)) ⊎ ((attempt ≡ Some t) × (short ≡ bare.Waits u) × IsNewest (event.Commit t) (bare.Waits u) d.past)
RunsWhy d before attempt short (Some (Full n)) = (before ≡ Some (Full n)) ⊎ ((attempt ≡ None) × (n ≡ d.configuration.rules.limits.live))
RunsWhy d before attempt short (Some (End n)) = (before ≡ Some (End n)) ⊎ ((attempt ≡ None) × (n ≡ d.ended))
RunsWhy d before attempt short (Some (Busy n)) = before ≡ Some (Busy n)
RunsWhy d before attempt short (Some Cut) = (before ≡ Some Cut) ⊎ (attempt ≡ None)
RunsWhy d before attempt short None = Unit {0}

-- ---- a run between two turns

-- an attempt rests for another transaction, for which its commit was told to wait, and for nothing else; a run without one rests since as
-- many are live as the limits allow, until a transaction ends, or for a cut
abbrev pub RestsFor : DeskState → Option ℕ → Option Reason → Type 0
RestsFor d (Some t) (Some (Turn u v)) = (u ≡ t) × (v ≢ t) × (was_told_to_wait d.past t ≡ true)
RestsFor d (Some t) (Some (Full n)) = ⊥
RestsFor d (Some t) (Some (End n)) = ⊥
RestsFor d (Some t) (Some (Busy n)) = ⊥
RestsFor d (Some t) (Some Cut) = ⊥
RestsFor d (Some t) None = ⊥
RestsFor d None (Some (Turn u v)) = ⊥
RestsFor d None (Some (Full n)) = n ≡ d.configuration.rules.limits.live
RestsFor d None (Some (End n)) = Unit {0}
RestsFor d None (Some (Busy n)) = ⊥
RestsFor d None (Some Cut) = Unit {0}
RestsFor d None None = Unit {0}

-- the history is legal, and the run has not begun, or its turns have left it so
pub record GoesOn (d : DeskState) (run : Run) : Type 0 where
  pub legal : Legal d.configuration d.past
  pub rests : RestsFor d run.attempt run.ask.reason

-- ---- what a turn adds to the history

-- the turn gives its transaction up: the deadline has come, or an allocation failed
abbrev pub gives_up : Result TurnKind NoMemory → Bool
gives_up (Ok turn.Late) = true
gives_up (Ok _) = false
gives_up (Err e) = true

-- the event is a step or a commit of this transaction or, if it is given up, its abort
abbrev pub IsOf : Bool → ℕ → Event → Type 0
IsOf quits t asked = IsStepOrCommitOf asked t ⊎ ((quits ≡ true) × (asked ≡ event.Quit t))

-- each of them is
abbrev pub AreOf : Bool → ℕ → List Entry → Type 0
AreOf quits t [] = Unit {0}
AreOf quits t (e ∷ before) = IsOf quits t e.event × AreOf quits t before

-- such entries were added, and no others
pub record Grows (quits : Bool) (t : ℕ) (before after : List Entry) : Type 0 where
  pub later : List Entry
  pub own : AreOf quits t later
  pub is : after ≡ later ++ before

-- nothing was added; or such entries of the attempt that rested; or a start that starts nothing; or, where none rested, the start of an
-- attempt, and such entries of it
pub data GrowsBy (quits : Bool) (p : ℕ) (args : List ℤ) (attempt ticket : Option ℕ) (before after : List Entry) : Type 0 where
  nothing : after ≡ before → GrowsBy quits p args attempt ticket before after
  goes_on : (t : ℕ) → attempt ≡ Some t → Grows quits t before after → GrowsBy quits p args attempt ticket before after
  refused : (r : Reply) → is_start r ≡ false → after ≡ record { event = event.Start p args; reply = r } ∷ before
      → GrowsBy quits p args attempt ticket before after
  begins : attempt ≡ None → (t : ℕ) → ticket ≡ Some t → Grows quits t (record { event = event.Start p args; reply = reply.Started t } ∷ before) after
      → GrowsBy quits p args attempt ticket before after

-- ---- how a turn ends

-- if the reply says that the transaction had ended, it rested, and has ended meanwhile
abbrev pub OverMeanwhile : Option ℕ → List Entry → ShortReply → Type 0
OverMeanwhile attempt past (bare.Over f) = (t : ℕ) × (attempt ≡ Some t) × (live past t ≡ false)
OverMeanwhile attempt past _ = Unit {0}

-- the newest entry is the abort of this transaction; before it, the transaction was live, and its commit had to wait for another one that
-- was live: for which it rested, or as it was just told
pub record GaveUp (t : ℕ) (reason : Option Reason) (past : List Entry) : Type 0 where
  pub other : ℕ
  pub reply : Reply
  pub before : List Entry
  pub is : past ≡ record { event = event.Quit t; reply = reply } ∷ before
  pub both_live : (live before t ≡ true) × (live before other ≡ true)
  pub waits : (reason ≡ Some (Turn t other)) ⊎ IsNewest (event.Commit t) (bare.Waits other) before

-- a turn is late: no attempt may begin any more; or the run would have to rest, and has no attempt, or has just lost it by a conflict; or it
-- has given its attempt up, since this had to wait
abbrev pub LateWhy : ℕ → Run → DeskState → Run → Type 0
LateWhy now run after next = ((run.attempt ≡ None) × (is_over run.ask.deadline run.tries now ≡ true))
    ⊎ (IsLate run.ask.deadline now next.ask.reason after × ((run.attempt ≡ None) ⊎ (is_conflict next.ask.reply ≡ true)))
    ⊎ ((has_come run.ask.deadline now ≡ true) × ((t : ℕ) × GaveUp t run.ask.reason after.past))
