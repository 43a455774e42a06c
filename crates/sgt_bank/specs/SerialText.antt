-- The text of a bank's report, with the results of the serial run in place of those of the history.
use Rattle.std.specs.Prelude.{ℕ, ◌+◌, Bool, true, false, cond, List, [], ◌∷◌, ◌++◌, length, reverse, take, Option, Some, None, slice_get}
use Rattle.sgt_model.specs.declared.entry.Entry.{Entry}
use Rattle.sgt_model.specs.Databases.{Row}
use Rattle.sgt_model.specs.declared.reply.Reply.{Reply}
use Rattle.sgt_model.specs.declared.reply.Reply.TheVariants as reply
use Rattle.sgt_model.specs.Configurations.{Configuration}
use Rattle.sgt_model.specs.Replay.{RunResult, GaveAnswers, RaisedCode, reported_calls, folded}
use Rattle.sgt_format.specs.DatabaseText.{database_text}
use Rattle.sgt_format.specs.ReplyText.{committed_text}
use Rattle.sgt_audit.specs.declared.outcome.Outcome.{Outcome}
use Rattle.sgt_audit.specs.declared.outcome.Outcome.TheVariants as outcome
use Rattle.sgt_bank.specs.OutcomeText.{raised_text, raised_words, outcome_words, numbered_line}

-- the results of the serial run for each committed and each refused transaction, the first reply first
abbrev pub serial_results : Configuration → List Entry → List RunResult
serial_results s history = reverse (folded s (reverse history)).results

-- how many transactions committed or were refused before entry n, and so come before its own in the serial run
abbrev pub reported_before : List Entry → ℕ → ℕ
reported_before history n = length (reported_calls (reverse (take n history)))

-- the words that report a result
abbrev pub result_words : Option RunResult → List ℕ
result_words (Some (GaveAnswers answers)) = committed_text answers
result_words (Some (RaisedCode code)) = raised_text code
result_words None = []

-- what the serial run gives the transaction that entry n committed or refused
abbrev pub result_at : Configuration → List Entry → ℕ → List ℕ
result_at s history n = result_words (slice_get (serial_results s history) (reported_before history n))

-- the reply refuses a transaction at its commit
abbrev pub is_refused : Reply → Bool
is_refused (reply.Refused code fell) = true
is_refused _ = false

-- the words of a raised code. If entry n refused the transaction at its commit, they are those of the serial run. If
-- it was aborted at its step, no serial run has it, and they are those of its reply
abbrev pub serial_raised : Configuration → List Entry → ℕ → Option Entry → List ℕ
serial_raised s history n None = []
serial_raised s history n (Some e) = cond (is_refused e.reply) (result_at s history n) (raised_words e.reply)

-- the words of an outcome; for a job that entry n committed or refused, the result of its transaction in the serial
-- run
abbrev pub serial_words : {N : Type 0} → Configuration → List Entry → Outcome N → List ℕ
serial_words s history (outcome.Done n) = result_at s history n
serial_words s history (outcome.Asked n) = serial_raised s history n (slice_get history n)
serial_words s history o = outcome_words history o

-- the lines of outcomes, of the jobs from number n on
abbrev pub serial_lines : {N : Type 0} → ℕ → Configuration → List Entry → List (Outcome N) → List ℕ
serial_lines n s history [] = []
serial_lines n s history (o ∷ os) = numbered_line n (serial_words s history o) ++ serial_lines (n + 1) s history os

-- all of them, and then the database
abbrev pub serial_text : {N : Type 0} → Configuration → List Entry → List (Outcome N) → List Row → List ℕ
serial_text s history outcomes rows = serial_lines 0 s history outcomes ++ database_text rows
