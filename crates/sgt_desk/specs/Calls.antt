-- What a turn of each call does.
use Rattle.std.specs.Prelude.{◌≡◌, ◌≢◌, ◌⊎◌, ◌↔◌, ℕ, ℤ, ◌≤◌, ◌<◌, true, false, cond, is_some, List, length, Result, Ok, Some, None}
use Rattle.sgt_model.specs.declared.errors.NoMemory.{NoMemory}
use Rattle.sgt_model.specs.declared.event.Event.TheVariants.{Start, Commit}
use Rattle.sgt_model.specs.declared.short_reply.ShortReply.{ShortReply}
use Rattle.sgt_model.specs.Fates.{start_count}
use Rattle.sgt_desk.specs.declared.ask.Ask.{Ask}
use Rattle.sgt_desk.specs.declared.ask.Ticket.{Ticket}
use Rattle.sgt_desk.specs.declared.ask.Turn.{Turn}
use Rattle.sgt_desk.specs.declared.ask.Turn.TheVariants.{Done, Rest, Late, Again, Stale}
use Rattle.sgt_desk.specs.declared.making.Asked.{Asked}
use Rattle.sgt_desk.specs.declared.reason.Reason.TheVariants.{Busy}
use Rattle.sgt_desk.specs.declared.running.Run.{Run}
use Rattle.sgt_desk.specs.Asks.{CommitsWhy, IsLate, IsNotFull, IsNoWait, Rests, SawCut, StartsWhy, event_of, has_come}
use Rattle.sgt_desk.specs.Desks.{DeskState, Adds, AddsEntry, IsCutOff, MayAdd, MayAddEntry, SameHistory, StaysLive, is_busy, with_call, without_call}
use Rattle.sgt_desk.specs.Runs.{RequestsOnly, Begins, GoesOn, GrowsBy, IsOutcome, LateWhy, LeavesOnly, OverMeanwhile, RunsWhy, gives_up, is_conflict, is_over, named}

-- a turn of a start
pub record StartTurn (procedure : ℕ) (args : List ℤ) (now : ℕ) (before : DeskState) (ask : Ask) (after : DeskState) (next : Ask)
    (turn : Result Turn NoMemory) : Type 0 where
  pub done : turn ≡ Ok Done → Adds (Start procedure args) before next.reply after
  pub not_full : turn ≡ Ok Done → IsNotFull next.reply
  pub rests : turn ≡ Ok Rest → Rests next now after
  pub why : StartsWhy before ask.reason next.reason
  pub cut : 0 < before.cutters → after ≡ before
  pub late : turn ≡ Ok Late → IsLate ask.deadline now next.reason after
  pub nothing : turn ≢ Ok Done → start_count after.past ≡ start_count before.past
  pub turns : (turn ≢ Ok Again) × (turn ≢ Ok Stale)
  pub entries : MayAdd (Start procedure args) before next.reply after
  pub deadline : next.deadline ≡ ask.deadline

-- a turn of a commit
pub record CommitTurn (ticket : Ticket) (now : ℕ) (before : DeskState) (ask : Ask) (after : DeskState) (next : Ask)
    (turn : Result Turn NoMemory) : Type 0 where
  pub done : turn ≡ Ok Done → AddsEntry (Commit ticket.tid) before next.reply after
  pub no_wait : turn ≡ Ok Done → IsNoWait next.reply
  pub rests : turn ≡ Ok Rest → Rests next now after
  pub counted : turn ≡ Ok Rest → (next.is_counted ≡ true) × (after.committing ≡ with_call ask.is_counted before.committing)
  pub uncounted : turn ≢ Ok Rest → (next.is_counted ≡ false) × (after.committing ≡ without_call ask.is_counted before.committing)
  pub cutters : after.cutters ≡ before.cutters
  pub why : CommitsWhy ticket.tid after.past ask.reason next.reply next.reason
  pub late : turn ≡ Ok Late → IsLate ask.deadline now next.reason after
  pub live : turn ≢ Ok Done → StaysLive before after
  pub again : turn ≢ Ok Again
  pub stale : (turn ≡ Ok Stale) ↔ (ticket.part ≢ before.part)
  pub unchanged : turn ≡ Ok Stale → SameHistory before after
  pub entries : MayAddEntry (Commit ticket.tid) before next.reply after
  pub deadline : next.deadline ≡ ask.deadline

-- a turn of a run
pub record RunTurn (procedure : ℕ) (args : List ℤ) (now : ℕ) (before : DeskState) (run : Run) (after : DeskState) (next : Run)
    (turn : Result Turn NoMemory) : Type 0 where
  pub outcome : turn ≡ Ok Done → IsOutcome next.ask.reply (named next.ticket) after.past
  pub retried : turn ≡ Ok Again → IsOutcome next.ask.reply (named next.ticket) after.past
  pub not_full : turn ≡ Ok Done → IsNotFull next.ask.reply
  pub meanwhile : gives_up turn ≡ false → turn ≢ Ok Rest → OverMeanwhile run.attempt before.past next.ask.reply
  pub grows : GoesOn before run → GrowsBy (gives_up turn) procedure args run.attempt (named next.ticket) before.past after.past
  pub grown : gives_up turn ≡ false → turn ≢ Ok Rest → length before.past < length after.past
  pub goes_on : GoesOn before run → GoesOn after next
  pub done : turn ≡ Ok Done → is_conflict next.ask.reply ≡ true → next.most ≤ next.tries
  pub call : Begins procedure args before run after next
  pub others : RequestsOnly (named next.ticket) before.past after.past
  pub part : after.part ≡ before.part
  pub configuration : after.configuration ≡ before.configuration
  pub left : LeavesOnly run.attempt (start_count before.past) after.past next.attempt
  pub only : turn ≢ Ok Rest → next.attempt ≡ None
  pub over : is_over run.ask.deadline run.tries now ≡ true → start_count after.past ≡ start_count before.past
  pub cut : 0 < before.cutters → start_count after.past ≡ start_count before.past
  pub again : turn ≡ Ok Again → (is_conflict next.ask.reply ≡ true) × (next.tries < next.most)
  pub rests : turn ≡ Ok Rest → Rests next.ask now after
  pub why : RunsWhy after run.ask.reason next.attempt next.ask.reply next.ask.reason
  pub counted : next.ask.is_counted ≡ is_some next.attempt
  pub committing : after.committing ≡ cond (is_some next.attempt) (with_call run.ask.is_counted before.committing)
      (without_call run.ask.is_counted before.committing)
  pub cutters : after.cutters ≡ before.cutters
  pub late : turn ≡ Ok Late → has_come run.ask.deadline now ≡ true
  pub late_why : GoesOn before run → turn ≡ Ok Late → LateWhy now run after next
  pub stale : turn ≢ Ok Stale
  pub most : next.most ≡ run.most
  pub deadline : next.ask.deadline ≡ run.ask.deadline

-- a turn of a cut
pub record CutTurn (now : ℕ) (before : DeskState) (ask : Ask) (after : DeskState) (next : Ask) (turn : Result Turn NoMemory) : Type 0 where
  pub done : turn ≡ Ok Done → IsCutOff before after ⊎ (SawCut ask before × SameHistory before after)
  pub rests : turn ≡ Ok Rest → Rests next now after
  pub why : turn ≡ Ok Rest → next.reason ≡ Some (Busy after.part)
  pub counted : turn ≡ Ok Rest → (next.is_counted ≡ true) × (after.cutters ≡ with_call ask.is_counted before.cutters)
  pub uncounted : turn ≢ Ok Rest → (next.is_counted ≡ false) × (after.cutters ≡ without_call ask.is_counted before.cutters)
  pub committing : after.committing ≡ before.committing
  pub late : turn ≡ Ok Late → (has_come ask.deadline now ≡ true) × (is_busy before ≡ true)
  pub turns : (turn ≢ Ok Again) × (turn ≢ Ok Stale)
  pub unchanged : turn ≢ Ok Done → SameHistory before after
  pub busy : is_busy before ≡ true → SameHistory before after
  pub deadline : next.deadline ≡ ask.deadline

-- an event of a transaction that never rests
pub record MakeTurn (ticket : Ticket) (requested : Asked) (before : DeskState) (short : ShortReply) (after : DeskState)
    (turn : Result Turn NoMemory) : Type 0 where
  pub done : turn ≡ Ok Done → Adds (event_of requested ticket.tid) before short after
  pub stale : (turn ≡ Ok Stale) ↔ (ticket.part ≢ before.part)
  pub turns : (turn ≢ Ok Again) × (turn ≢ Ok Rest) × (turn ≢ Ok Late)
  pub unchanged : turn ≢ Ok Done → after ≡ before
