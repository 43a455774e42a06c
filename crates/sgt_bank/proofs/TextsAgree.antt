-- The text of a report is the text that the serial run gives.
use Rattle.std.proofs.Common.{◌≡◌, ℕ, zero, suc, ◌+◌, List, [], ◌∷◌, ◌++◌, length, refl, sym, ◌∙◌, ap, append_assoc}
use Rattle.std.specs.Prelude.{true, cond, reverse, take, slice_get, Some}
use Rattle.std.specs.List.{AllZip}
use Rattle.std.proofs.lemmas.List.{reverse-append, length-reverse}
use Rattle.std.proofs.lemmas.Grind.{reverse_onto}
use Rattle.std.proofs.lemmas.Bool.{false≢true}
use Rattle.std.proofs.lemmas.Option.{none-some, same_Some}
use Rattle.sgt_model.specs.declared.event.Event.{Event}
use Rattle.sgt_model.specs.declared.reply.Reply.{Reply}
use Rattle.sgt_model.specs.declared.reply.Reply.TheVariants as reply
use Rattle.sgt_model.specs.declared.entry.Entry.{Entry}
use Rattle.sgt_model.specs.Databases.{Row}
use Rattle.sgt_model.specs.Configurations.{Configuration}
use Rattle.sgt_model.specs.Replay.{RunResult, GaveAnswers, RaisedCode, reported_call_in, reported_calls, reported_in, reported, ReplayAgrees}
use Rattle.sgt_format.specs.DatabaseText.{database_text}
use Rattle.sgt_audit.specs.declared.job.Job.{Job}
use Rattle.sgt_audit.specs.declared.outcome.Outcome.{Outcome}
use Rattle.sgt_audit.specs.declared.outcome.Outcome.TheVariants as outcome
use Rattle.sgt_model.specs.Questions.{is_commit}
use Rattle.sgt_audit.specs.Outcomes.{OutcomeStands}
use Rattle.sgt_bank.specs.OutcomeText.{commit_words, raised_words, words_at, outcome_words, numbered_line}
use Rattle.sgt_bank.specs.Reports.{outcome_lines, report_text}
use Rattle.sgt_bank.specs.SerialText.{reported_before, result_words, result_at, is_refused, serial_raised, serial_words, serial_lines, serial_text}

-- the results that a history reports, oldest entry first
abbrev in_order : List Entry → List RunResult
in_order [] = []
in_order (e ∷ later) = reported_in e.reply ++ in_order later

reported-append : (past before : List Entry) → reported (past ++ before) ≡ reported past ++ reported before
reported-append [] before = refl
reported-append (e ∷ past) before = ap (λ l. reported_in e.reply ++ l) (reported-append past before)
    ∙ sym (append_assoc (reported_in e.reply) (reported past) (reported before))

-- an entry reports at most one result
reported-one : (r : Reply) → reverse (reported_in r ++ []) ≡ reported_in r
reported-one (reply.Committed answers) = refl
reported-one (reply.Refused code fell) = refl
reported-one r = refl

-- in the opposite order
reported-in-order : (history : List Entry) → reverse (reported (reverse history)) ≡ in_order history
reported-in-order [] = refl
reported-in-order (e ∷ later) =
    ap (λ past. reverse (reported past)) (reverse_onto later e [])
    ∙ ap reverse (reported-append (reverse later) (e ∷ []))
    ∙ reverse-append (reported (reverse later)) (reported_in e.reply ++ [])
    ∙ ap (λ l. l ++ reverse (reported (reverse later))) (reported-one e.reply)
    ∙ ap (λ l. reported_in e.reply ++ l) (reported-in-order later)

-- a commit is a call and reports a result, and so does a refusal
count-step : (past : List Entry) (event : Event) (r : Reply) → length (reported_calls past) ≡ length (reported past)
    → length (reported_call_in past event r ++ reported_calls past) ≡ length (reported_in r ++ reported past)
count-step past event (reply.Committed answers) same = ap suc same
count-step past event (reply.Refused code fell) same = ap suc same
count-step past event r same = same

-- as many calls are reported as results
calls-reported : (past : List Entry) → length (reported_calls past) ≡ length (reported past)
calls-reported [] = refl
calls-reported (e ∷ past) = count-step past e.event e.reply (calls-reported past)

calls-in-order : (history : List Entry) (n : ℕ) → reported_before history n ≡ length (in_order (take n history))
calls-in-order history n =
    calls-reported (reverse (take n history)) ∙ sym (length-reverse (reported (reverse (take n history))))
    ∙ ap length (reported-in-order (take n history))

-- one entry on
skip : (r : Reply) (all before : List RunResult) → slice_get (reported_in r ++ all) (length (reported_in r ++ before)) ≡ slice_get all
    (length before)
skip (reply.Committed answers) all before = refl
skip (reply.Refused code fell) all before = refl
skip r all before = refl

-- the result of an entry comes after those reported before
reported-at : (history : List Entry) (n : ℕ) (e : Entry) (result : RunResult) → slice_get history n ≡ Some e
    → reported_in e.reply ≡ result ∷ [] → slice_get (in_order history) (length (in_order (take n history))) ≡ Some result
reported-at [] n e result at is = absurd (none-some e at)
reported-at (x ∷ later) zero e result at is =
    ap (λ l. slice_get (l ++ in_order later) 0) (ap (λ (y : Entry). reported_in y.reply) (same_Some x e at) ∙ is)
reported-at (x ∷ later) (suc n) e result at is =
    skip x.reply (in_order later) (in_order (take n later)) ∙ reported-at later n e result at is

module _ (s : Configuration) (history : List Entry) (n : ℕ) (e : Entry) (replay : ReplayAgrees s (reverse history))
    (at : slice_get history n ≡ Some e) where
  -- the result of the serial run there is the one that was reported
  result-is : (result : RunResult) → reported_in e.reply ≡ result ∷ [] → result_at s history n ≡ result_words (Some result)
  result-is result is =
      ap result_words (
      ap (λ l. slice_get (reverse l) (reported_before history n)) replay.answers
      ∙ ap (λ l. slice_get l (reported_before history n)) (reported-in-order history)
      ∙ ap (slice_get (in_order history)) (calls-in-order history n)
      ∙ reported-at history n e result at is
      )

  -- so the words of a commit report it
  commit-words : (r : Reply) → e.reply ≡ r → is_commit r ≡ true → result_at s history n ≡ commit_words r
  commit-words (reply.Committed answers) is commits = result-is (GaveAnswers answers) (ap reported_in is)
  commit-words r is commits = absurd (false≢true commits)

  -- and those of a refusal
  ask-words : (r : Reply) → e.reply ≡ r → cond (is_refused r) (result_at s history n) (raised_words r) ≡ raised_words r
  ask-words (reply.Refused code fell) is = result-is (RaisedCode code) (ap reported_in is)
  ask-words r is = refl

-- the words of an outcome that stands in the history
words-same : {N : Type 0} → (s : Configuration) (history : List Entry) (tries : ℕ) (job : Job) (o : Outcome N)
    → ReplayAgrees s (reverse history) → OutcomeStands history tries job o → serial_words s history o ≡ outcome_words history o
words-same s history tries job (outcome.Done n) replay stands =
    commit-words s history n stands.entry replay stands.there stands.entry.reply refl stands.reply_is ∙ ap (words_at commit_words)
    (sym stands.there)
words-same s history tries job (outcome.Asked n) replay stands =
    ap (serial_raised s history n) stands.there ∙ ask-words s history n stands.entry replay stands.there stands.entry.reply refl
    ∙ ap (words_at raised_words) (sym stands.there)
words-same s history tries job o replay stands = refl

lines-same : {N : Type 0} → (s : Configuration) (history : List Entry) (tries number : ℕ) (jobs : List Job) (os : List (Outcome N))
    → ReplayAgrees s (reverse history) → AllZip (OutcomeStands history tries) jobs os
    → serial_lines number s history os ≡ outcome_lines number history os
lines-same s history tries number [] [] replay stand = refl
lines-same s history tries number [] (o ∷ os) replay stand = absurd stand
lines-same s history tries number (job ∷ jobs) [] replay stand = absurd stand
lines-same s history tries number (job ∷ jobs) (o ∷ os) replay stand =
    ap (λ words. numbered_line number words ++ serial_lines (number + 1) s history os) (words-same s history tries job o replay stand.0)
    ∙ ap (λ lines. numbered_line number (outcome_words history o) ++ lines) (lines-same s history tries (number + 1) jobs os replay stand.1)

-- the text of a report whose outcomes stand in its history is that of the serial run
pub text-same : {N : Type 0} → (s : Configuration) (history : List Entry) (tries : ℕ) (jobs : List Job) (os : List (Outcome N))
    (rows : List Row) → ReplayAgrees s (reverse history) → AllZip (OutcomeStands history tries) jobs os
    → report_text history os rows ≡ serial_text s history os rows
text-same s history tries jobs os rows replay stand = ap (λ lines. lines ++ database_text rows)
    (sym (lines-same s history tries 0 jobs os replay stand))
