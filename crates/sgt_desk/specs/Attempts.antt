-- One attempt of a run.
use Rattle.std.specs.Prelude.{◌≡◌, ◌≢◌, ◌⊎◌, ℕ, ◌+◌, ℤ, ◌≤◌, ◌<◌, true, false, List, [], ◌∷◌, length, Option, Some, None, Result, Ok}
use Rattle.sgt_model.specs.declared.entry.Entry.{Entry}
use Rattle.sgt_model.specs.declared.errors.NoMemory.{NoMemory}
use Rattle.sgt_model.specs.declared.event.Event.TheVariants.{Start, Quit}
use Rattle.sgt_model.specs.declared.reply.Reply.{Reply}
use Rattle.sgt_model.specs.declared.reply.Reply.TheVariants as reply
use Rattle.sgt_model.specs.declared.short_reply.ShortCause.TheVariants as why
use Rattle.sgt_model.specs.declared.short_reply.ShortReply.{ShortReply}
use Rattle.sgt_model.specs.declared.short_reply.ShortReply.TheVariants as bare
use Rattle.sgt_model.specs.Fates.{is_start, live, live_ones, start_count}
use Rattle.sgt_model.specs.Legality.{Legal}
use Rattle.sgt_model.specs.Progress.{call_of}
use Rattle.sgt_progress.specs.Waits.{IsReady}
use Rattle.sgt_desk.specs.declared.ask.Ask.{Ask}
use Rattle.sgt_desk.specs.declared.ask.Turn.{Turn}
use Rattle.sgt_desk.specs.declared.ask.Turn.TheVariants.{Done, Rest, Late, Again, Stale}
use Rattle.sgt_desk.specs.declared.reason.Reason.{Reason}
use Rattle.sgt_desk.specs.declared.running.Run.{Run}
use Rattle.sgt_desk.specs.Asks.{has_come, is_of_cut, IsLate, IsNotFull, Rests}
use Rattle.sgt_desk.specs.Desks.{Adds, DeskState, SameCounts}
use Rattle.sgt_desk.specs.Runs.{is_conflict, gives_up, GaveUp, Grows, KeepsCalls, RequestsOnly, RestsFor}

-- all events were of this transaction, and none was a start; as many calls rest as before
pub record ActsFor (t : ℕ) (before after : DeskState) : Type 0 where
  pub starts : start_count after.past ≡ start_count before.past
  pub calls : KeepsCalls before.past after.past
  pub others : RequestsOnly (Some t) before.past after.past
  pub part : after.part ≡ before.part
  pub configuration : after.configuration ≡ before.configuration
  pub counts : SameCounts before after

-- a turn of the attempt: it is tried again after a conflict as often as the run says, and only an attempt that rests is left
pub record TurnsAttempt (now : ℕ) (run : Run) (after : DeskState) (next : Run) (turn : Result Turn NoMemory) : Type 0 where
  pub done : turn ≡ Ok Done → is_conflict next.ask.reply ≡ true → next.most ≤ next.tries
  pub again : turn ≡ Ok Again → (is_conflict next.ask.reply ≡ true) × (next.tries < next.most)
  pub rests : turn ≡ Ok Rest → Rests next.ask now after
  pub no_cut : turn ≡ Ok Rest → is_of_cut next.ask.reason ≡ false
  pub only : turn ≢ Ok Rest → next.attempt ≡ None
  pub late : turn ≡ Ok Late → has_come run.ask.deadline now ≡ true
  pub stale : turn ≢ Ok Stale
  pub most : next.most ≡ run.most
  pub deadline : next.ask.deadline ≡ run.ask.deadline
  pub counted : next.ask.is_counted ≡ run.ask.is_counted

-- the reply does not say that the transaction had ended before
abbrev pub IsNotOver : ShortReply → Type 0
IsNotOver (bare.Over f) = ⊥
IsNotOver _ = Unit {0}

-- an attempt may go on with its commit: its procedure is at its end, and it rests for another transaction, or has not rested
pub record MayCommit (d : DeskState) (t : ℕ) (reason : Option Reason) : Type 0 where
  pub ready : IsReady d.configuration d.past t
  pub rests : (reason ≡ None) ⊎ RestsFor d (Some t) reason

-- the newest entry is the abort of this transaction, and no other was added
pub record Quits (t : ℕ) (before after : List Entry) : Type 0 where
  pub reply : Reply
  pub is : after ≡ record { event = Quit t; reply = reply } ∷ before

-- a turn of an attempt that may: what it adds, why it rests then, and why it is late
pub record GoneOn (now t : ℕ) (before : DeskState) (run : Run) (after : DeskState) (next : Run) (turn : Result Turn NoMemory) : Type 0 where
  pub grows : Grows (gives_up turn) t before.past after.past
  pub rests : RestsFor after next.attempt next.ask.reason
  pub late : turn ≡ Ok Late → ((is_conflict next.ask.reply ≡ true) × IsLate run.ask.deadline now next.ask.reason after)
      ⊎ ((has_come run.ask.deadline now ≡ true) × GaveUp t run.ask.reason after.past)

-- a legal history stays so
abbrev pub StaysLegal : DeskState → DeskState → Type 0
StaysLegal before after = Legal before.configuration before.past → Legal after.configuration after.past

-- a turn of the commit of an attempt
pub record CommitsAttempt (t : ℕ) (before : DeskState) (ask : Ask) (after : DeskState) (next : Ask) (turn : Result Turn NoMemory) : Type 0 where
  pub grows : Grows false t before.past after.past
  pub not_full : turn ≡ Ok Done → IsNotFull next.reply
  pub not_over : live before.past t ≡ true → turn ≡ Ok Done → IsNotOver next.reply
  pub gone : IsReady before.configuration before.past t → turn ≡ Ok Done → live after.past t ≡ false
  pub waits : MayCommit before t ask.reason → (turn ≡ Ok Rest) ⊎ (turn ≡ Ok Late) → RestsFor after (Some t) next.reason

-- a transaction is aborted if it is live, and this is then the newest reply; else nothing happens
pub record QuitsIfLive (t : ℕ) (before : DeskState) (ask : Ask) (after : DeskState) (next : Ask) : Type 0 where
  pub live_now : live before.past t ≡ true → Quits t before.past after.past × (next.reply ≡ bare.Aborted why.Quit)
  pub else_same : live before.past t ≡ false → (after.past ≡ before.past) × (next.reply ≡ ask.reply)

-- steps of a transaction, up to this reply: its procedure is at its end, or the transaction is not live
pub record StepsOn (t : ℕ) (before after : DeskState) (short : ShortReply) : Type 0 where
  pub not_full : IsNotFull short
  pub not_over : live before.past t ≡ true → IsNotOver short
  pub ready : short ≡ bare.Ended → IsReady after.configuration after.past t
  pub live_still : live before.past t ≡ true → short ≡ bare.Ended → live after.past t ≡ true
  pub gone : short ≢ bare.Ended → live after.past t ≡ false

-- a turn that ends an attempt: its reply is not to a start, and it does not say that a live transaction had ended
pub record EndsAttempt (t : ℕ) (before : DeskState) (short : ShortReply) (turn : Result Turn NoMemory) : Type 0 where
  pub not_full : turn ≡ Ok Done → IsNotFull short
  pub not_over : live before.past t ≡ true → gives_up turn ≡ false → turn ≢ Ok Rest → IsNotOver short

-- a start that starts nothing is the newest entry
pub record RefusesStart (p : ℕ) (args : List ℤ) (before after : List Entry) : Type 0 where
  pub reply : Reply
  pub nothing : is_start reply ≡ false
  pub is : after ≡ record { event = Start p args; reply = reply } ∷ before

-- the start of this transaction, by this procedure with these arguments, is the newest entry
pub record Begun (p : ℕ) (args : List ℤ) (t : ℕ) (before after : DeskState) : Type 0 where
  pub is : after.past ≡ record { event = Start p args; reply = reply.Started t } ∷ before.past
  pub number : t ≡ start_count before.past
  pub counted : start_count after.past ≡ start_count before.past + 1
  pub live_now : live after.past t ≡ true
  pub call : call_of after.past t ≡ record { procedure = p; args = args; caller_accesses = [] }

-- a start was asked for, and has begun a transaction or was refused
pub record AsksStart (p : ℕ) (args : List ℤ) (before : DeskState) (short : ShortReply) (after : DeskState) : Type 0 where
  pub adds : Adds (Start p args) before short after
  pub begun : (t : ℕ) → short ≡ bare.Started t → Begun p args t before after
  pub refused : ((t : ℕ) → short ≡ bare.Started t → ⊥) → RefusesStart p args before.past after.past
  pub full : short ≡ bare.Full → length (live_ones after.past) ≡ after.configuration.rules.limits.live
  pub not_over : IsNotOver short
