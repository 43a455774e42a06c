-- What an event and its reply say by themselves, without the history.
use Rattle.std.specs.Prelude.{ℕ, Bool, true, false, cond, List, [], Option, Some, None}
use Rattle.sgt_model.specs.declared.call.Call.{Call}
use Rattle.sgt_model.specs.declared.event.Event.{Event}
use Rattle.sgt_model.specs.declared.event.Event.TheVariants.{Start, Step, Access, Commit, Quit}
use Rattle.sgt_model.specs.declared.reply.Reply.{Reply}
use Rattle.sgt_model.specs.declared.reply.Reply.TheVariants as reply
use Rattle.sgt_model.specs.declared.reply.Cause.TheVariants as cause
use Rattle.sgt_model.specs.Progress as progress

-- an event

-- the transaction that it names; a start names none
abbrev pub named_by : Event → Option ℕ
named_by (Start p args) = None
named_by (Step t) = Some t
named_by (Access t d) = Some t
named_by (Commit t) = Some t
named_by (Quit t) = Some t

-- a call, before its caller has decided on an access
abbrev pub called : Call → progress.Call
called c = record { procedure = c.procedure; args = c.args; caller_accesses = [] }

-- a reply

-- the number of the transaction that it starts, if any
abbrev pub started_number : Reply → Option ℕ
started_number (reply.Started t) = Some t
started_number _ = None

-- it answers a start that starts nothing
abbrev pub refuses_start : Reply → Bool
refuses_start reply.NoProcedure = true
refuses_start reply.BadArgs = true
refuses_start reply.Spent = true
refuses_start reply.Full = true
refuses_start _ = false

-- it says that a commit must wait
abbrev pub is_wait : Reply → Bool
is_wait (reply.Waits u) = true
is_wait _ = false

-- it commits a transaction
abbrev pub is_commit : Reply → Bool
is_commit (reply.Committed answers) = true
is_commit _ = false

-- it aborts a transaction whose procedure raised a code, at the step or at the commit
abbrev pub is_raised : Reply → Bool
is_raised (reply.Aborted (cause.Asked code) fell) = true
is_raised (reply.Refused code fell) = true
is_raised _ = false

-- it aborts a transaction on its caller's request
abbrev pub is_quit : Reply → Bool
is_quit (reply.Aborted cause.Quit fell) = true
is_quit _ = false

-- it ends a live transaction, by a commit or an abort
abbrev pub is_ending : Reply → Bool
is_ending (reply.Committed answers) = true
is_ending (reply.Aborted why fell) = true
is_ending (reply.Refused code fell) = true
is_ending _ = false

-- as the reply to a step or a commit, it reports that the transaction has ended, now or before
abbrev pub reports_end : Reply → Bool
reports_end (reply.Over fate) = true
reports_end (reply.Committed answers) = true
reports_end (reply.Aborted why fell) = true
reports_end (reply.Refused code fell) = true
reports_end _ = false

-- an event with its reply

-- the transaction that they start, if any
abbrev pub started_in : Event → Reply → Option ℕ
started_in (Start p args) r = started_number r
started_in (Step t) r = None
started_in (Access t d) r = None
started_in (Commit t) r = None
started_in (Quit t) r = None

-- the transaction that they report to be over, if any: it is not live after them. The transaction of a `Quit` is over,
-- whatever the reply
abbrev pub over_in : Event → Reply → Option ℕ
over_in (Start p args) r = None
over_in (Step t) r = cond (reports_end r) (Some t) None
over_in (Access t d) r = cond (reports_end r) (Some t) None
over_in (Commit t) r = cond (reports_end r) (Some t) None
over_in (Quit t) r = Some t
