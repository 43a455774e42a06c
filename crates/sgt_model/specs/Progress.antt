-- What a transaction was started with, how far it has come, and what its procedure does next.
use Rattle.std.specs.Prelude.{ℕ, ℤ, Bool, true, cond, nat_eq, List, [], ◌∷◌, ◌++◌, length, Option, Some, None}
use Rattle.std.specs.Option.{unwrap_or}
use Rattle.sgt_model.specs.declared.event.Event.{Event}
use Rattle.sgt_model.specs.declared.event.Event.TheVariants.{Start}
use Rattle.sgt_model.specs.declared.event.Event.TheVariants as event
use Rattle.sgt_model.specs.declared.reply.Reply.{Reply}
use Rattle.sgt_model.specs.declared.reply.Reply.TheVariants as reply
use Rattle.sgt_model.specs.declared.entry.Entry.{Entry}
use Rattle.sgt_model.specs.declared.kind.Kind.{Kind}
use Rattle.sgt_model.specs.declared.kind.Kind.TheVariants.{Look, Store}
use Rattle.sgt_model.specs.declared.event.Request.{Request}
use Rattle.sgt_model.specs.declared.event.Request.TheVariants.{Read, Write}
use Rattle.sgt_model.specs.Numbers.{is_value_or_none}
use Rattle.sgt_model.specs.Contents.{Contents}
use Rattle.sgt_model.specs.Runs.{Run, CallerAccess, reported, wrote, Outcome, serial, with_accesses}
use Rattle.sgt_model.specs.Traces.{trace, Next, Looks, Puts, next_at}
use Rattle.sgt_model.specs.Accesses.{Access, acts}
use Rattle.sgt_model.specs.Configurations.{Rules, Configuration, run_if}

-- a procedure with its arguments; and the accesses on which its caller decided after its end, the last one first
pub record Call : Type 0 where
  pub procedure : ℕ
  pub args : List ℤ
  pub caller_accesses : List CallerAccess

-- the call that a start requests
abbrev pub call_at : Event → Option Call
call_at (Start p args) = Some (record { procedure = p; args = args; caller_accesses = [] })
call_at _ = None

-- the call that the reply Started(t) answers
abbrev pub call_in : Event → Reply → ℕ → Option Call
call_in event (reply.Started u) t = cond (nat_eq u t) (call_at event) None
call_in event _ t = None

-- the procedure and arguments of the start that was answered Started(t); if there is none, it is never used
abbrev pub call_of : List Entry → ℕ → Call
call_of [] t = record { procedure = 0; args = []; caller_accesses = [] }
call_of (e ∷ past) t = unwrap_or (call_in e.event e.reply t) (call_of past t)

-- what a request for an access does next
abbrev pub requested : Request → Next
requested (Read k) = Looks k
requested (Write k v) = Puts k v

-- what it writes, if it does, is a value or none
abbrev pub is_fit : Request → Bool
is_fit (Read k) = true
is_fit (Write k v) = is_value_or_none v

-- the access that an entry makes for the caller of t, if it does
abbrev pub caller_access_in : Event → Reply → ℕ → List CallerAccess
caller_access_in (event.Access u d) (reply.Looked k v) t = cond (nat_eq u t) (reported k v ∷ []) []
caller_access_in (event.Access u d) (reply.Wrote k v) t = cond (nat_eq u t) (wrote k v ∷ []) []
caller_access_in _ _ t = []

-- the accesses on which the caller of t decided, newest first
abbrev pub caller_accesses : List Entry → ℕ → List CallerAccess
caller_accesses [] t = []
caller_accesses (e ∷ past) t = caller_access_in e.event e.reply t ++ caller_accesses past t

-- a call with such accesses
abbrev pub with_caller_accesses : List CallerAccess → Call → Call
with_caller_accesses xs c = record { procedure = c.procedure; args = c.args; caller_accesses = xs }

-- what that call does
abbrev pub run_of : Rules → Call → Run
run_of r c = run_if (r.procedures c.procedure) c.args

-- what a call gives at once, alone: its procedure, and then the accesses of its caller
abbrev pub outcome_in : Rules → Call → Contents → Outcome
outcome_in r c m = with_accesses c.caller_accesses (serial (run_of r c) m)

-- the value of a read, and nothing for a write
abbrev pub if_look : Kind → Option ℤ → List (Option ℤ)
if_look Look v = v ∷ []
if_look Store v = []

-- the values that accesses, newest first, have read, oldest first
abbrev pub values_read : List Access → List (Option ℤ)
values_read [] = []
values_read (a ∷ before) = values_read before ++ if_look a.kind a.value

-- the values that t read, oldest first
abbrev pub reads : List Entry → ℕ → List (Option ℤ)
reads past t = values_read (acts past t)

-- how many accesses t has made
abbrev pub made : List Entry → ℕ → ℕ
made past t = length (acts past t)

-- what t's procedure does next: access number `made` of its trace over the values read, or how that trace ends
abbrev pub next_of : Configuration → List Entry → ℕ → Next
next_of s past t = next_at (trace (run_of s.rules (call_of past t)) (reads past t)) (made past t)
