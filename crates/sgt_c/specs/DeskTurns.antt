-- What a turn of a desk's call does, as `sgt_desk` has it, with its numbers for C.
use Rattle.std.specs.Prelude.{◌≡◌, ◌≢◌, ◌⊎◌, ℕ, ℤ, pos, ◌≤◌, Bool, not, ◌&&◌, nat_eq, List, Result, Ok, Err, Option, Some, None, IfSome, IsSome}
use Rattle.sgt_model.specs.declared.entry.Entry.{Entry}
use Rattle.sgt_model.specs.declared.errors.NoMemory.{NoMemory}
use Rattle.sgt_model.specs.declared.short_reply.ShortReply.{ShortReply}
use Rattle.sgt_model.specs.Numbers.{IsValue}
use Rattle.sgt_engine.specs.EngineView.{newest_reply}
use Rattle.sgt_desk.specs.declared.ask.Ask.{Ask}
use Rattle.sgt_desk.specs.declared.ask.Ticket.{Ticket}
use Rattle.sgt_desk.specs.declared.ask.Turn.{Turn}
use Rattle.sgt_desk.specs.declared.ask.Turn.TheVariants.{Done, Rest, Late, Again, Stale}
use Rattle.sgt_desk.specs.declared.making.Asked.{Asked}
use Rattle.sgt_desk.specs.declared.running.Run.{Run}
use Rattle.sgt_desk.specs.Asks.{saw_cut}
use Rattle.sgt_desk.specs.Calls.{StartTurn, CommitTurn, RunTurn, CutTurn, MakeTurn}
use Rattle.sgt_desk.specs.Desks.{DeskState, Wakes, is_busy}
use Rattle.sgt_c.specs.declared.held.Held.{Held}
use Rattle.sgt_c.specs.declared.reply_struct.SgtReply.{SgtReply}
use Rattle.sgt_c.specs.declared.shared.ask_struct.SgtAsk.{SgtAsk}
use Rattle.sgt_c.specs.declared.shared.desk_struct.SgtDesk.{SgtDesk}
use Rattle.sgt_c.specs.declared.shared.run_struct.SgtRun.{SgtRun}
use Rattle.sgt_c.specs.DeskStructs.{IsAsk, IsRun, ask_in, asked_in, desk_in, run_in}
use Rattle.sgt_c.specs.ReplyStructs.{HoldsReply}

-- ---- numbers

-- what comes next: 0 the call is done, 32 it rests, 12 its deadline has come, 33 the next turn comes at once, 13 its ticket is stale, and
-- 1 an allocation failed
abbrev pub status_of : Result Turn NoMemory → ℕ
status_of (Ok Done) = 0
status_of (Ok Rest) = 32
status_of (Ok Late) = 12
status_of (Ok Again) = 33
status_of (Ok Stale) = 13
status_of (Err e) = 1

-- the newest reply of the history is returned
abbrev pub ReportsNewest : SgtReply → List Entry → Type 0
ReportsNewest reported past = IfSome (newest_reply past) (HoldsReply reported)

-- the next turn of a cut would cut the history off
abbrev pub cuts_now : Ask → DeskState → Bool
cuts_now a d = not (saw_cut a.reason d.part) && not (is_busy d)

-- both handles hold an engine, and of their desks it is so
abbrev pub OfDesks : Option Held → SgtDesk → Option Held → SgtDesk → (DeskState → DeskState → Type 0) → Type 0
OfDesks None d new d' of = ⊥
OfDesks (Some h) d None d' of = ⊥
OfDesks (Some h) d (Some h') d' of = of (desk_in d h) (desk_in d' h')

-- the status of a call that makes no turn: there is no engine, another call is in it, or the numbers are out of their ranges
abbrev pub IsRefused : ℕ → Type 0
IsRefused status = (status ≡ 2) ⊎ (status ≡ 5) ⊎ (status ≡ 10)

-- the status of any other call
abbrev pub IsTurn : ℕ → Type 0
IsTurn status = (status ≢ 2) × (status ≢ 5) × (status ≢ 10)

-- the number says whether all that rest are to be woken
abbrev pub WakesBy : ℕ → DeskState → DeskState → Type 0
WakesBy wakes before after = Wakes before after (nat_eq wakes 1)

-- the newest reply is returned
abbrev pub Reports : SgtReply → DeskState → DeskState → Type 0
Reports reported before after = ReportsNewest reported after.past

-- the numbers ask something of a transaction
abbrev pub IsRunnable : ℕ → ℕ → ℤ → Type 0
IsRunnable kind table number = (table ≤ 7) × IsValue number × IsSome (asked_in kind (table, number) (pos 0))

-- ---- turns, as the structs say them

-- the struct of a start says a turn of it, and the status what comes next
abbrev pub MakesStart : ℕ → List ℤ → ℕ → ℕ → SgtAsk → SgtAsk → DeskState → DeskState → Type 0
MakesStart procedure args now status ask to before after = (turn : Result Turn NoMemory) × (next : Ask) × (status ≡ status_of turn)
    × IsAsk to next × StartTurn procedure args now before (ask_in ask) after next turn

-- the same of a commit
abbrev pub MakesCommit : Ticket → ℕ → ℕ → SgtAsk → SgtAsk → DeskState → DeskState → Type 0
MakesCommit ticket now status ask to before after = (turn : Result Turn NoMemory) × (next : Ask) × (status ≡ status_of turn)
    × IsAsk to next × CommitTurn ticket now before (ask_in ask) after next turn

-- the same of a run
abbrev pub MakesRun : ℕ → List ℤ → ℕ → ℕ → SgtRun → SgtRun → DeskState → DeskState → Type 0
MakesRun procedure args now status run to before after = (turn : Result Turn NoMemory) × (next : Run) × (status ≡ status_of turn)
    × IsRun to next × RunTurn procedure args now before (run_in run) after next turn

-- the same of a cut
abbrev pub MakesCut : ℕ → ℕ → SgtAsk → SgtAsk → DeskState → DeskState → Type 0
MakesCut now status ask to before after = (turn : Result Turn NoMemory) × (next : Ask) × (status ≡ status_of turn)
    × IsAsk to next × CutTurn now before (ask_in ask) after next turn

-- the same of an event that never rests
abbrev pub Makes : Ticket → Asked → ℕ → DeskState → DeskState → Type 0
Makes ticket requested status before after = (turn : Result Turn NoMemory) × (short : ShortReply) × (status ≡ status_of turn)
    × MakeTurn ticket requested before short after turn
