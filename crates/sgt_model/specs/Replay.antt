-- The committed and the refused transactions run one after another in the order of their replies, each as if alone. A
-- serializable history is equivalent to this serial one (Bernstein, Hadzilacos and Goodman (1987), chapter 2). Here
-- that is stated for the reported answers or codes and for the final values. If codes are reported at the step, none is
-- refused, and the order is commit order.
use Rattle.std.specs.Prelude.{◌≡◌, ℕ, ℤ, List, [], ◌∷◌, ◌++◌}
use Rattle.sgt_model.specs.declared.event.Event.{Event}
use Rattle.sgt_model.specs.declared.reply.Reply.{Reply}
use Rattle.sgt_model.specs.declared.reply.Reply.TheVariants as reply
use Rattle.sgt_model.specs.declared.entry.Entry.{Entry}
use Rattle.sgt_model.specs.Contents.{Key, Contents}
use Rattle.sgt_model.specs.Runs.{Outcome, Done, Asked, contents_after}
use Rattle.sgt_model.specs.Fates.{subject}
use Rattle.sgt_model.specs.Values.{settled}
use Rattle.sgt_model.specs.Configurations.{Configuration}
use Rattle.sgt_model.specs.Progress.{Call, call_of, caller_accesses, with_caller_accesses, outcome_in}

-- ---- the serial run

-- what a procedure reports to its caller at its end: the answers, or the code that it raised
pub data RunResult : Type 0 where
  GaveAnswers : List ℤ → RunResult
  RaisedCode : ℕ → RunResult

-- the result of an outcome
abbrev pub result_of : Outcome → RunResult
result_of (Done answers last) = GaveAnswers answers
result_of (Asked code) = RaisedCode code

-- what transactions that ran one after another gave, the last one's result first, and the contents that they left
pub record Folded : Type 0 where
  pub results : List RunResult
  pub last : Contents

-- one more ran, with this outcome
abbrev pub with_outcome : Outcome → Folded → Folded
with_outcome o before = record { results = result_of o ∷ before.results; last = contents_after o before.last }

-- these calls, the last one first, run one after another on the initial database
abbrev pub run_in_turn : Configuration → List Call → Folded
run_in_turn s [] = record { results = []; last = s.opening }
run_in_turn s (c ∷ before) = with_outcome (outcome_in s.rules c (run_in_turn s before).last) (run_in_turn s before)

-- ---- of a history

-- the call of the transaction that an entry commits or refuses, if it does
abbrev pub reported_call_in : List Entry → Event → Reply → List Call
reported_call_in past event (reply.Committed answers) = with_caller_accesses (caller_accesses past (subject event)) (call_of past (subject event)) ∷ []
reported_call_in past event (reply.Refused code fell) = with_caller_accesses (caller_accesses past (subject event)) (call_of past (subject event)) ∷ []
reported_call_in past event _ = []

-- the calls of the committed and refused transactions, the last reply first
abbrev pub reported_calls : List Entry → List Call
reported_calls [] = []
reported_calls (e ∷ past) = reported_call_in past e.event e.reply ++ reported_calls past

-- the committed and refused transactions, run one after another in reply order on the initial database. Of the history, only
-- the Committed and Refused entries and the starts of their transactions are used
abbrev pub folded : Configuration → List Entry → Folded
folded s past = run_in_turn s (reported_calls past)

-- what an entry reports to a transaction that commits or is refused, if any
abbrev pub reported_in : Reply → List RunResult
reported_in (reply.Committed answers) = GaveAnswers answers ∷ []
reported_in (reply.Refused code fell) = RaisedCode code ∷ []
reported_in _ = []

-- what was reported to the committed and refused transactions, the last reply first
abbrev pub reported : List Entry → List RunResult
reported [] = []
reported (e ∷ past) = reported_in e.reply ++ reported past

-- serializable, in reply order: run one after another, the procedures of the committed and refused transactions give
-- the answers or codes that were reported, and leave the committed values
pub record ReplayAgrees (s : Configuration) (past : List Entry) : Type 0 where
  pub answers : (folded s past).results ≡ reported past
  pub database : (k : Key) → (folded s past).last k ≡ settled s.opening past k
