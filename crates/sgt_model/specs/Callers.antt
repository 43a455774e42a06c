-- Callers that decide each access themselves, as functions of what their reads returned; and their transactions run
-- alone, one after another. The serial run uses the functions, the starts and the order of the replies, and no recorded
-- access.
use Rattle.std.specs.Prelude.{◌≡◌, ℕ, zero, suc, ◌≤◌, List, [], ◌∷◌, ◌++◌, length, true, Option, Some, None}
use Rattle.sgt_model.specs.declared.event.Event.{Event}
use Rattle.sgt_model.specs.declared.event.Event.TheVariants.{Commit}
use Rattle.sgt_model.specs.declared.event.Event.TheVariants as event
use Rattle.sgt_model.specs.declared.event.Request.{Request}
use Rattle.sgt_model.specs.declared.event.Request.TheVariants.{Read, Write}
use Rattle.sgt_model.specs.declared.reply.Reply.{Reply}
use Rattle.sgt_model.specs.declared.reply.Reply.TheVariants as reply
use Rattle.sgt_model.specs.declared.entry.Entry.{Entry}
use Rattle.sgt_model.specs.declared.kind.Kind.TheVariants.{Look, Store}
use Rattle.sgt_model.specs.Contents.{Key, Contents, set_in}
use Rattle.sgt_model.specs.Runs.{Run, looks, puts, ends, raises, Outcome, Done, Asked, serial}
use Rattle.sgt_model.specs.Accesses.{Access, acts}
use Rattle.sgt_model.specs.Fates.{subject, committed}
use Rattle.sgt_model.specs.Values.{settled}
use Rattle.sgt_model.specs.Configurations.{Configuration}
use Rattle.sgt_model.specs.Progress.{Call, call_of, run_of}
use Rattle.sgt_model.specs.Legality.{Legal}
use Rattle.sgt_model.specs.Replay.{RunResult, GaveAnswers, RaisedCode, Folded, with_outcome, reported_calls, reported}

-- ---- in a history

-- a caller is any function: given its transaction's accesses so far, newest first, each read with the value that it
-- returned, it gives the access that it requests next, or none, and commits
abbrev pub Caller : Type 0
Caller = List Access → Option Request

-- if an entry is an access that t's caller requested and that was made, then it is the one that the function gives
-- after t's accesses so far; and if t commits at the entry, the function gives none
abbrev pub AsDecided : Caller → ℕ → List Entry → Event → Reply → Type 0
AsDecided c t past (event.Access u d) (reply.Looked k v) = u ≡ t → c (acts past t) ≡ Some d
AsDecided c t past (event.Access u d) (reply.Wrote k v) = u ≡ t → c (acts past t) ≡ Some d
AsDecided c t past (Commit u) (reply.Committed answers) = u ≡ t → c (acts past t) ≡ None
AsDecided c t past _ _ = Unit {0}

-- so it is at each entry: the function is what t's caller did
abbrev pub Decides : Caller → ℕ → List Entry → Type 0
Decides c t [] = Unit {0}
Decides c t (e ∷ past) = Decides c t past × AsDecided c t past e.event e.reply

-- ---- alone

-- the accesses of a transaction that runs alone, newest first, and its plain map
pub record Alone : Type 0 where
  pub acts : List Access
  pub map : Contents

-- t makes this access, or none
abbrev pub then_does : ℕ → Option Request → Alone → Alone
then_does t None a = a
then_does t (Some (Read k)) a = record { acts = record { by = t; key = k; kind = Look; value = a.map k } ∷ a.acts; map = a.map }
then_does t (Some (Write k v)) a = record { acts = record { by = t; key = k; kind = Store; value = v } ∷ a.acts; map = set_in a.map k v }

-- all that its procedure does
abbrev pub by_procedure : ℕ → Run → Alone → Alone
by_procedure t (looks k go) a = by_procedure t (go (a.map k)) (then_does t (Some (Read k)) a)
by_procedure t (puts k v rest) a = by_procedure t rest (then_does t (Some (Write k v)) a)
by_procedure t (ends answers) a = a
by_procedure t (raises code) a = a

-- the next access that its caller requests, if any
abbrev pub requests : ℕ → Caller → Alone → Alone
requests t c a = then_does t (c a.acts) a

-- the accesses that its caller requests, at most n
abbrev pub by_caller : ℕ → Caller → ℕ → Alone → Alone
by_caller t c zero a = a
by_caller t c (suc n) a = requests t c (by_caller t c n a)

-- what one transaction reports, and its accesses
pub record Turn : Type 0 where
  pub result : RunResult
  pub acts : List Access

-- transactions that ran alone one after another, the last one first, and the map that they leave
pub record Turns : Type 0 where
  pub turns : List Turn
  pub last : Contents

-- one more ran
abbrev pub with_turn : Turn → Contents → Turns → Turns
with_turn turn last before = record { turns = turn ∷ before.turns; last = last }

-- its procedure gave this outcome. Then its caller goes on, unless the procedure raised a code, which leaves the map unchanged
abbrev pub after_procedure : ℕ → Caller → ℕ → Outcome → Alone → Turns → Turns
after_procedure t c n (Done answers m) a before = with_turn (record { result = GaveAnswers answers; acts = (by_caller t c n a).acts }) (by_caller t c n a).map before
after_procedure t c n (Asked code) a before = with_turn (record { result = RaisedCode code; acts = a.acts }) before.last before

-- t runs: this procedure, and then this caller
abbrev pub with_run : ℕ → Caller → ℕ → Run → Turns → Turns
with_run t c n r before = after_procedure t c n (serial r before.last) (by_procedure t r (record { acts = []; map = before.last })) before

-- the transaction that an entry commits or refuses runs, if it does
abbrev pub with_entry : Configuration → (ℕ → Caller) → ℕ → List Entry → Event → Reply → Turns → Turns
with_entry s callers n past event (reply.Committed answers) before = with_run (subject event) (callers (subject event)) n (run_of s.rules (call_of past (subject event))) before
with_entry s callers n past event (reply.Refused code fell) before = with_run (subject event) (callers (subject event)) n (run_of s.rules (call_of past (subject event))) before
with_entry s callers n past event _ before = before

-- the committed and refused transactions, run one after another in reply order on the initial database
abbrev pub callers_in_turn : Configuration → (ℕ → Caller) → ℕ → List Entry → Turns
callers_in_turn s callers n [] = record { turns = []; last = s.opening }
callers_in_turn s callers n (e ∷ past) = with_entry s callers n past e.event e.reply (callers_in_turn s callers n past)

-- ---- they agree

-- what the history has of a transaction that an entry commits or refuses
abbrev pub turn_in : List Entry → Event → Reply → List Turn
turn_in past event (reply.Committed answers) = record { result = GaveAnswers answers; acts = acts past (subject event) } ∷ []
turn_in past event (reply.Refused code fell) = record { result = RaisedCode code; acts = acts past (subject event) } ∷ []
turn_in past event _ = []

abbrev pub turns_of : List Entry → List Turn
turns_of [] = []
turns_of (e ∷ past) = turn_in past e.event e.reply ++ turns_of past

-- run alone, each transaction makes the accesses that it made in the history, each read returns the same value, and it
-- gives what was reported; and the map that they leave is the committed database
pub record CallersAgree (s : Configuration) (past : List Entry) (callers : ℕ → Caller) (n : ℕ) : Type 0 where
  pub turns : (callers_in_turn s callers n past).turns ≡ turns_of past
  pub database : (k : Key) → (callers_in_turn s callers n past).last k ≡ settled s.opening past k

-- whatever functions the callers of the committed transactions of a legal history are, they agree. Each may request as many
-- accesses as the history has entries, or more
abbrev pub CallersRunAlone : Type 0
CallersRunAlone = (s : Configuration) (past : List Entry) → Legal s past → (callers : ℕ → Caller) → ((t : ℕ) → committed past t ≡ true → Decides (callers t) t past) → (n : ℕ) → length past ≤ n → CallersAgree s past callers n

-- each transaction of a legal history has such a caller
abbrev pub CallersExist : Type 0
CallersExist = (s : Configuration) (past : List Entry) → Legal s past → (t : ℕ) → (c : Caller) × Decides c t past

-- ---- without such accesses

-- no entry is an access on which a caller decided
abbrev pub IsOfProcedure : Event → Type 0
IsOfProcedure (event.Access t d) = ⊥
IsOfProcedure _ = Unit {0}

abbrev pub AreOfProcedures : List Entry → Type 0
AreOfProcedures [] = Unit {0}
AreOfProcedures (e ∷ past) = AreOfProcedures past × IsOfProcedure e.event

-- the procedures of these calls, the last one first, run one after another on the initial database
abbrev pub procedures_in_turn : Configuration → List Call → Folded
procedures_in_turn s [] = record { results = []; last = s.opening }
procedures_in_turn s (c ∷ before) = with_outcome (serial (run_of s.rules c) (procedures_in_turn s before).last) (procedures_in_turn s before)

-- they give the answers or codes that were reported, and leave the committed values
pub record ProceduresAgree (s : Configuration) (past : List Entry) : Type 0 where
  pub answers : (procedures_in_turn s (reported_calls past)).results ≡ reported past
  pub database : (k : Key) → (procedures_in_turn s (reported_calls past)).last k ≡ settled s.opening past k

-- so they do in each legal history in which no caller decided on an access: the serial run is one of procedures alone
abbrev pub ProceduresRunAlone : Type 0
ProceduresRunAlone = (s : Configuration) (past : List Entry) → Legal s past → AreOfProcedures past → ProceduresAgree s past
