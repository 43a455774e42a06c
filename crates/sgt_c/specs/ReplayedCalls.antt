-- The calls of the committed and refused transactions, as C reads them. The replay runs this list one after another.
use Rattle.std.specs.Prelude.{◌≡◌, ℕ, ◌≤◌, ◌<◌, ◌+◌, cond, nat_eq, length, map, take, reverse, List, [], ◌∷◌, ◌++◌, Option, Some, None}
use Rattle.std.specs.List.{All}
use Rattle.sgt_model.specs.declared.entry.Entry.{Entry}
use Rattle.sgt_model.specs.declared.event.Event.{Event}
use Rattle.sgt_model.specs.declared.reply.Reply.{Reply}
use Rattle.sgt_model.specs.declared.reply.Reply.TheVariants as reply
use Rattle.sgt_model.specs.Fates.{subject}
use Rattle.sgt_model.specs.Legality.{Legal}
use Rattle.sgt_model.specs.Progress.{Call, caller_accesses, with_caller_accesses}
use Rattle.sgt_model.specs.Replay.{RunResult, GaveAnswers, RaisedCode, reported, reported_calls}
use Rattle.sgt_model.specs.Configurations.{Configuration}
use Rattle.sgt_c.specs.declared.call_struct.SgtCall.{SgtCall}
use Rattle.sgt_c.specs.declared.held.Held.{Held}
use Rattle.sgt_c.specs.AccessStructs.{accesses_of, listed}
use Rattle.sgt_c.specs.ManyRuns.{IsStartable}

-- ---- what a struct says

-- the procedure with its arguments
abbrev pub bare_call : SgtCall → Call
bare_call s = record { procedure = s.procedure; args = take s.args s.arg; caller_accesses = [] }

-- the same, and the accesses of its transaction's caller, which sgt_accesses returns
abbrev pub call_in : List Entry → SgtCall → Call
call_in past s = with_caller_accesses (caller_accesses past s.tid) (bare_call s)

-- its number of accesses is that of those
abbrev pub CountsAccesses : List Entry → SgtCall → Type 0
CountsAccesses past s = s.accesses ≡ length (accesses_of past s.tid)

-- its result: the answers if the kind is a commit, else the code
abbrev pub result_in : SgtCall → RunResult
result_in s = cond (nat_eq s.kind 13) (GaveAnswers (take s.answers s.answer)) (RaisedCode s.code)

-- the transaction, and the kind of the reply that ended it
abbrev pub ends_in : SgtCall → ℕ × ℕ
ends_in s = (s.tid, s.kind)

-- ---- of a history

-- the entries, oldest first, are a legal history
abbrev pub IsLegal : List Entry → Type 0
IsLegal entries = (s : Configuration) × Legal s (reverse entries)

-- the transaction that an entry commits or refuses, if any, with 13 for a commit and 15 for a refusal
abbrev pub ends_by : Event → Reply → List (ℕ × ℕ)
ends_by event (reply.Committed answers) = (subject event, 13) ∷ []
ends_by event (reply.Refused code fell) = (subject event, 15) ∷ []
ends_by event _ = []

-- the committed and refused transactions, each with the kind of its reply; the last reply comes first
abbrev pub reported_ends : List Entry → List (ℕ × ℕ)
reported_ends [] = []
reported_ends (e ∷ past) = ends_by e.event e.reply ++ reported_ends past

-- the entries before a position, newest first; the given list is oldest first
abbrev pub past_at : List Entry → ℕ → List Entry
past_at entries place = reverse (take place entries)

-- the first `count` structs add what this function reads off the history between the two positions, the last one first
abbrev pub Adds : {X : Type 0} → (List Entry → List X) → (SgtCall → X) → List Entry → ℕ → List SgtCall → ℕ → ℕ → Type 0
Adds read field entries from to count next = read (past_at entries next) ≡ reverse (map field (take count to)) ++ read (past_at entries from)

-- the first `count` structs are the calls between the two positions of the history, in reply order, with their results and with
-- how many accesses their callers made
pub record AreReported (entries : List Entry) (from : ℕ) (to : List SgtCall) (count next : ℕ) : Type 0 where
  pub calls : Adds reported_calls (call_in (reverse entries)) entries from to count next
  pub results : Adds reported result_in entries from to count next
  pub ends : Adds reported_ends ends_in entries from to count next
  pub accesses : All (CountsAccesses (reverse entries)) (take count to)

-- the same; each can be started again; and no entry follows them unless all structs are filled
pub record ArePassed (entries : List Entry) (from : ℕ) (to : List SgtCall) (count next : ℕ) : Type 0 where
  pub reported : AreReported entries from to count next
  pub startable : All IsStartable (take count to)
  pub onward : from ≤ next
  pub within : next ≤ length entries
  pub capacity : count ≤ length to
  pub whole : next < length entries → count ≡ length to

-- the same for the engine in a handle
abbrev pub ReturnsCalls : Option Held → ℕ → List SgtCall → ℕ → ℕ → Type 0
ReturnsCalls None from to count next = ⊥
ReturnsCalls (Some h) from to count next = ArePassed (reverse h.engine.past) from to count next

-- the struct is the call that the entry at a position ends; there is none if the entry ends none
pub record IsReportedAt (entries : List Entry) (place : ℕ) (reported_call : Option SgtCall) : Type 0 where
  pub calls : reported_calls (past_at entries (place + 1)) ≡ listed (call_in (reverse entries)) reported_call ++ reported_calls (past_at entries place)
  pub results : reported (past_at entries (place + 1)) ≡ listed result_in reported_call ++ reported (past_at entries place)
  pub ends : reported_ends (past_at entries (place + 1)) ≡ listed ends_in reported_call ++ reported_ends (past_at entries place)
