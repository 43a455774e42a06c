-- The committed and refused calls of a history, given to a new engine one after another: each commits or is refused there too.
use Rattle.std.specs.Prelude.{◌≡◌, ℕ, ℤ, Bool, true, false, cond, List, [], ◌∷◌, map}
use Rattle.sgt_model.specs.declared.event.Event.{Event}
use Rattle.sgt_model.specs.declared.event.Event.TheVariants.{Start, Access}
use Rattle.sgt_model.specs.declared.event.Request.{Request}
use Rattle.sgt_model.specs.declared.event.Request.TheVariants.{Read, Write}
use Rattle.sgt_model.specs.declared.reply.Reply.{Reply}
use Rattle.sgt_model.specs.declared.reply.Reply.TheVariants as reply
use Rattle.sgt_model.specs.declared.entry.Entry.{Entry}
use Rattle.sgt_model.specs.Runs.{CallerAccess, reported, wrote}
use Rattle.sgt_model.specs.Progress.{Call}
use Rattle.sgt_model.specs.Replay.{reported_calls}
use Rattle.sgt_model.specs.Legality.{Legal}
use Rattle.sgt_model.specs.Laws.{InEach}
use Rattle.sgt_progress.specs.Alone.{NoneLive}
use Rattle.sgt_progress.specs.Reruns.{IsOneByOne, ReportTheSame}

-- what is requested of an engine for a call: a procedure with its arguments, and then accesses, the last one first
pub record GivenCall : Type 0 where
  pub procedure : ℕ
  pub args : List ℤ
  pub requests : List Request

-- what was requested for a caller's access: a read asks for no value
abbrev pub request_of : CallerAccess → Request
request_of (reported k v) = Read k
request_of (wrote k v) = Write k v

-- what was requested for a call
abbrev pub given_of : Call → GivenCall
given_of c = record { procedure = c.procedure; args = c.args; requests = map request_of c.caller_accesses }

-- a request came too early or too late, or would write no value, and the reply says so: nothing was done
abbrev pub turns_away : Reply → Bool
turns_away reply.NotEnded = true
turns_away reply.BadArgs = true
turns_away reply.Unknown = true
turns_away (reply.Over fate) = true
turns_away _ = false

-- one more access is requested for the call that was started last
abbrev pub with_request : Request → List GivenCall → List GivenCall
with_request d [] = []
with_request d (g ∷ before) = record { procedure = g.procedure; args = g.args; requests = d ∷ g.requests } ∷ before

-- a start requests one more call, and an access that is not turned away one more access
abbrev pub given_with : Event → Reply → List GivenCall → List GivenCall
given_with (Start procedure args) r before = record { procedure = procedure; args = args; requests = [] } ∷ before
given_with (Access t d) r before = cond (turns_away r) before (with_request d before)
given_with _ r before = before

-- the calls that were requested, whatever the replies; the last one first
abbrev pub given_calls : List Entry → List GivenCall
given_calls [] = []
given_calls (e ∷ past) = given_with e.event e.reply (given_calls past)

-- Command logging: if the committed and refused calls of a legal history with their callers' accesses, and no others,
-- are requested one after another of a new engine, and nothing is live at the end, then each of them gets the same
-- answers or code there, each such read returns the same value, and the same is committed. So no start is refused, and
-- none of them is aborted at a step or at an access, or has to wait
abbrev pub GivenCallsAreReported : Type 0
GivenCallsAreReported = InEach (λ s past. (again : List Entry) → Legal s again → IsOneByOne again → NoneLive again
    → given_calls again ≡ map given_of (reported_calls past) → (reported_calls again ≡ reported_calls past) × ReportTheSame s again past)
