-- How a run ends once whatever it waits for has ended.
use Rattle.std.specs.Prelude.{◌≡◌, ◌≢◌, ◌⊎◌, ℕ, ℤ, ◌<◌, true, false, List, ◌++◌, Some, None, Result, Ok, Err}
use Rattle.sgt_model.specs.declared.entry.Entry.{Entry}
use Rattle.sgt_model.specs.declared.errors.NoMemory.{NoMemory}
use Rattle.sgt_model.specs.declared.short_reply.ShortCause.TheVariants as why
use Rattle.sgt_model.specs.declared.short_reply.ShortReply.{ShortReply}
use Rattle.sgt_model.specs.declared.short_reply.ShortReply.TheVariants as bare
use Rattle.sgt_model.specs.Fates.{live}
use Rattle.sgt_model.specs.Legality.{Legal}
use Rattle.sgt_desk.specs.declared.ask.Turn.{Turn}
use Rattle.sgt_desk.specs.declared.ask.Turn.TheVariants.{Done, Again}
use Rattle.sgt_desk.specs.declared.running.Run.{Run}
use Rattle.sgt_desk.specs.Asks.{has_come}
use Rattle.sgt_desk.specs.Calls.{RunTurn}
use Rattle.sgt_desk.specs.Desks.{DeskState}
use Rattle.sgt_desk.specs.Runs.{GoesOn}

-- whatever a run could wait for has ended: no transaction but its attempt is live, and no call waits for a cut
pub record IsFree (d : DeskState) (run : Run) : Type 0 where
  pub alone : (t : ℕ) → live d.past t ≡ true → run.attempt ≡ Some t
  pub no_cut : d.cutters ≡ 0

-- the next turn of a run that its turns have left so. Its deadline does not come, no allocation fails, and the limits allow a transaction
pub record FreeTurn (procedure : ℕ) (args : List ℤ) (now : ℕ) (before : DeskState) (run : Run) (after : DeskState) (next : Run)
    (turn : Result Turn NoMemory) : Type 0 where
  pub turns : RunTurn procedure args now before run after next turn
  pub on : GoesOn before run
  pub free : IsFree before run
  pub in_time : has_come run.ask.deadline now ≡ false
  pub memory : (e : NoMemory) → turn ≢ Err e
  pub limit : 0 < before.configuration.rules.limits.live

-- its transaction was committed or refused, or its procedure raised a code; or its start was refused for good
abbrev pub IsEnd : ShortReply → Type 0
IsEnd bare.Committed = Unit {0}
IsEnd (bare.Refused code) = Unit {0}
IsEnd (bare.Aborted (why.Asked code)) = Unit {0}
IsEnd bare.NoProcedure = Unit {0}
IsEnd bare.BadArgs = Unit {0}
IsEnd bare.Spent = Unit {0}
IsEnd _ = ⊥

-- a run whose attempt is live, or that has none, ends in this turn: so it does what it was called for, and is no abort of its own
abbrev pub FreeRunsEnd : Type 0
FreeRunsEnd = (p : ℕ) (args : List ℤ) (now : ℕ) (before : DeskState) (run : Run) (after : DeskState) (next : Run) (turn : Result Turn NoMemory)
    → FreeTurn p args now before run after next turn → ((t : ℕ) → run.attempt ≡ Some t → live before.past t ≡ true)
    → (turn ≡ Ok Done) × IsEnd next.ask.reply

-- a run whose attempt has ended while it rested ends in this turn, or has no attempt after it, and is as free as before: so it ends in the
-- next turn
abbrev pub OtherRunsEndThen : Type 0
OtherRunsEndThen = (p : ℕ) (args : List ℤ) (now : ℕ) (before : DeskState) (run : Run) (after : DeskState) (next : Run) (turn : Result Turn NoMemory)
    → FreeTurn p args now before run after next turn
    → ((turn ≡ Ok Done) ⊎ (turn ≡ Ok Again)) × (next.attempt ≡ None) × GoesOn after next × IsFree after next

-- turns of other calls leave a run as its own turns have left it: they only add entries, or cut the history off, which they do not while an
-- attempt rests
abbrev pub RunsGoOn : Type 0
RunsGoOn = (d e : DeskState) (run : Run) → GoesOn d run → Legal e.configuration e.past → e.configuration.rules ≡ d.configuration.rules
    → ((later : List Entry) × (e.past ≡ later ++ d.past)) ⊎ (run.attempt ≡ None) → GoesOn e run
