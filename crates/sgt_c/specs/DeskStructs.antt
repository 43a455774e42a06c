-- What the structs of a desk and of its calls say.
use Rattle.std.specs.Prelude.{◌≡◌, ℕ, ℤ, nat_eq, Option, Some, None, cond}
use Rattle.sgt_model.specs.Contents.{Key}
use Rattle.sgt_model.specs.declared.event.Request.TheVariants.{Read, Write}
use Rattle.sgt_model.specs.declared.short_reply.ShortReply.{ShortReply}
use Rattle.sgt_model.specs.declared.short_reply.ShortReply.TheVariants as bare
use Rattle.sgt_engine.specs.EngineView.{configuration_of}
use Rattle.sgt_desk.specs.declared.ask.Ask.{Ask}
use Rattle.sgt_desk.specs.declared.ask.Deadline.{Deadline}
use Rattle.sgt_desk.specs.declared.ask.Deadline.TheVariants.{Never, AtOnce, At}
use Rattle.sgt_desk.specs.declared.making.Asked.{Asked}
use Rattle.sgt_desk.specs.declared.making.Asked.TheVariants.{Step, Access, Quit}
use Rattle.sgt_desk.specs.declared.reason.Reason.{Reason}
use Rattle.sgt_desk.specs.declared.reason.Reason.TheVariants.{Turn, Full, End, Busy, Cut}
use Rattle.sgt_desk.specs.declared.running.Run.{Run}
use Rattle.sgt_desk.specs.Desks.{DeskState}
use Rattle.sgt_desk.specs.Engines.{EngineState}
use Rattle.sgt_c.specs.declared.held.Held.{Held}
use Rattle.sgt_c.specs.declared.shared.ask_struct.SgtAsk.{SgtAsk}
use Rattle.sgt_c.specs.declared.shared.desk_struct.SgtDesk.{SgtDesk}
use Rattle.sgt_c.specs.declared.shared.lent.Lent.{Lent}
use Rattle.sgt_c.specs.declared.shared.run_struct.SgtRun.{SgtRun}

-- ---- the desk

-- the configuration and the history of an engine that a handle has lent
abbrev pub lent_state : Lent → EngineState
lent_state l = record { configuration = configuration_of l.held.value.engine; past = l.held.value.engine.past }

-- the desk of the engine in a handle, with what its threads know of each other
abbrev pub desk_in : SgtDesk → Held → DeskState
desk_in d h = record {
  configuration = configuration_of h.engine;
  past = h.engine.past;
  part = h.part;
  ended = d.ended;
  reported = d.reported;
  committing = d.committing;
  cutters = d.cutters;
}

-- ---- a call, read

-- 1: it never rests. 2: until this time. Else it rests as long as it takes
abbrev pub deadline_of : ℕ → ℕ → Deadline
deadline_of until deadline = cond (nat_eq until 1) AtOnce (cond (nat_eq until 2) (At deadline) Never)

-- the deadline of a struct
abbrev pub deadline_in : SgtAsk → Deadline
deadline_in s = deadline_of s.until s.deadline

-- the reason of each number from 1 on; 0 is none
abbrev pub reason_of : ℕ → ℕ → ℕ → ℕ → Option Reason
reason_of reason number turn first = cond (nat_eq reason 1) (Some (Turn turn first)) (cond (nat_eq reason 2) (Some (Full number))
    (cond (nat_eq reason 3) (Some (End number)) (cond (nat_eq reason 4) (Some (Busy number))
    (cond (nat_eq reason 5) (Some Cut) None))))

-- the reason of a struct
abbrev pub reason_in : SgtAsk → Option Reason
reason_in s = reason_of s.reason s.number s.turn s.first

-- the call, without a reply
abbrev pub ask_in : SgtAsk → Ask
ask_in s = record { deadline = deadline_in s; reason = reason_in s; is_counted = nat_eq s.is_counted 1; reply = bare.Unknown }

-- the run, without a reply
abbrev pub run_in : SgtRun → Run
run_in s = record {
  ask = ask_in s.ask;
  attempt = cond (nat_eq s.has_attempt 1) (Some s.attempt) None;
  ticket = cond (nat_eq s.has_ticket 1) (Some (record { part = s.part; tid = s.tid })) None;
  tries = s.tries;
  most = s.most;
}

-- a call with this newest reply
abbrev pub replied : ShortReply → Ask → Ask
replied short a = record { deadline = a.deadline; reason = a.reason; is_counted = a.is_counted; reply = short }

-- the same of a run
abbrev pub run_replied : ShortReply → Run → Run
run_replied short r = record { ask = replied short r.ask; attempt = r.attempt; ticket = r.ticket; tries = r.tries; most = r.most }

-- the struct says this call, without its reply
abbrev pub IsAsk : SgtAsk → Ask → Type 0
IsAsk s a = ask_in s ≡ replied bare.Unknown a

-- the same of a run
abbrev pub IsRun : SgtRun → Run → Type 0
IsRun s r = run_in s ≡ run_replied bare.Unknown r

-- ---- what is asked of a transaction

-- 2: its next step. 4: its abort. 5 to 7: a read, a write of the value, a removal
abbrev pub asked_in : ℕ → Key → ℤ → Option Asked
asked_in kind key value = cond (nat_eq kind 2) (Some Step) (cond (nat_eq kind 4) (Some Quit)
    (cond (nat_eq kind 5) (Some (Access (Read key))) (cond (nat_eq kind 6) (Some (Access (Write key (Some value))))
    (cond (nat_eq kind 7) (Some (Access (Write key None))) None))))
