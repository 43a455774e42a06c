-- Laws of a run, and of what it writes.
use Rattle.std.proofs.Common.{◌≡◌, ℕ, zero, suc, ◌+◌, ◌<◌, ◌≤◌, List, [], ◌∷◌, refl, sym, ◌∙◌, arith}
use Rattle.std.specs.Prelude.{cond, Option, None, Some, IfSome, reverse, take}
use Rattle.std.specs.Io.KnownBytes.{Appends}
use Rattle.std.specs.List.{All, count_by}
use Rattle.std.proofs.lemmas.List.Sums.{sum_by-cons}
use Rattle.std.specs.declared.convert.Infallible.{Infallible}
use Rattle.sgt_audit.specs.declared.outcome.Outcome.{Outcome}
use Rattle.sgt_audit.specs.declared.outcome.Outcome.TheVariants as outcome
use Rattle.sgt_audit.specs.AllOutcomes.{is_left, is_untaken}
use Rattle.sgt_model.specs.declared.entry.Entry.{Entry}
use Rattle.sgt_model.specs.Databases.{Row}
use Rattle.sgt_format.specs.FilledOpenings.{OpensWith, leading_records}
use Rattle.sgt_format.specs.RecordText.{record_lines}
use Rattle.sgt_format.specs.declared.opening.Opening.{Opening}
use Rattle.sgt_format.specs.declared.record_line.RecordLine.{RecordLine}
use Rattle.sgt_audit.specs.declared.job.Job.{Job}
use Rattle.sgt_input.specs.Lines.{Ending, cut_within}
use Rattle.sgt_bank.specs.Inputs.{InputRequests, LinesRequest}
use Rattle.sgt_assembly.specs.Openings.{opened_configuration, OpenedIsBank}
use Rattle.sgt_bank.specs.Banks.{HasRun, AreRun, IsHistory, IsJson, IsRecords, IsReport, IsRun}
use Rattle.sgt_bank.specs.OutcomeJson.{json_text}
use Rattle.sgt_textbook.specs.Laws.{AreCommitOrdered, AreSerializable, AreRecoverable}
use Rattle.sgt_notation.specs.Transcripts.{TranscriptsSpellTextbooks, transcript}
use Rattle.sgt_bank.proofs.TextsAgree.{text-same}
use Rattle.sgt_bank.specs.Reports.{report_text}
use Rattle.sgt_bank.specs.declared.output.Output.{Output}
use Rattle.sgt_bank.specs.declared.output.Output.TheVariants as output
use Rattle.sgt_bank.specs.Outputs.{IsOutput, WritesAll, WritesPart, output_text}

-- no note can be made
no-note : Infallible → ⊥
no-note note = elim note [ ]

-- so none was left
none-left : (os : List (Outcome Infallible)) → count_by is_left os ≡ 0
none-left [] = refl
none-left (outcome.Done n ∷ os) = none-left os
none-left (outcome.Asked n ∷ os) = none-left os
none-left (outcome.Gave attempts ∷ os) = none-left os
none-left (outcome.Refused n ∷ os) = none-left os
none-left (outcome.Left note ∷ os) = absurd (no-note note)
none-left (outcome.Untaken ∷ os) = none-left os
none-left (outcome.NoMemory ∷ os) = none-left os

-- one more
all-cons : (o : Outcome Infallible) (os : List (Outcome Infallible)) → HasRun o → All HasRun os → All HasRun (o ∷ os)
all-cons o os first later zero d within = first
all-cons o os first later (suc k) d within = later k d (omega (arith, within))

-- if none is untaken, each was run
all-run : (os : List (Outcome Infallible)) → count_by is_untaken os ≡ 0 → All HasRun os
all-run [] taken = λ k d within. absurd (omega (arith, within))
all-run (outcome.Done n ∷ os) taken = all-cons (outcome.Done n) os tt (all-run os taken)
all-run (outcome.Asked n ∷ os) taken = all-cons (outcome.Asked n) os tt (all-run os taken)
all-run (outcome.Gave attempts ∷ os) taken = all-cons (outcome.Gave attempts) os tt (all-run os taken)
all-run (outcome.Refused n ∷ os) taken = all-cons (outcome.Refused n) os tt (all-run os taken)
all-run (outcome.Left note ∷ os) taken = absurd (no-note note)
all-run (outcome.Untaken ∷ os) taken = let one_more : 1 + count_by is_untaken os ≡ 0 = sym
    (sum_by-cons (λ (o : Outcome Infallible). cond (is_untaken o) 1 0) outcome.Untaken os) ∙ taken in absurd (omega (arith, one_more))
all-run (outcome.NoMemory ∷ os) taken = all-cons outcome.NoMemory os tt (all-run os taken)

-- all are taken if no worker has left
all-taken : (workers left untaken : ℕ) → 1 ≤ workers → left ≡ 0 → (0 < untaken → left ≡ workers) → untaken ≡ 0
all-taken workers left zero some none full = refl
all-taken workers left (suc untaken) some none full = absurd (omega (arith, some, none, full (omega arith)))

-- each job of a report without notes was run
pub each-run : (os : List (Outcome Infallible)) (workers : ℕ) → 1 ≤ workers
    → (0 < count_by is_untaken os → count_by is_left os ≡ workers) → All HasRun os
each-run os workers some full = all-run os (all-taken workers _ _ some (none-left os) full)

-- the first lines of an input of jobs open
opens-first : (workers : ℕ) (ls : List (List ℕ)) (ending : Ending) (o : Opening) (jobs : List Job)
    → LinesRequest workers ls ending o jobs → (line : List ℕ) × (records : List RecordLine) × OpensWith workers line records o
opens-first workers [] ending o jobs asks = absurd asks
opens-first workers (line ∷ later) ending o jobs asks = (line, leading_records later, asks.opens)

-- jobs that were run are those of the input
pub is-run : OpenedIsBank → (workers tries most : ℕ) (rest : Option (List ℕ)) (o : Opening) (jobs : List Job) (history : List Entry)
    (outcomes : List (Outcome Infallible)) (rows : List Row) → IfSome rest (λ bytes. InputRequests workers most bytes o jobs)
    → AreRun o jobs workers tries history outcomes rows → IfSome rest (λ bytes. IsRun workers tries most bytes history outcomes rows)
is-run bank workers tries most None o jobs history outcomes rows asks run = tt
is-run bank workers tries most (Some bytes) o jobs history outcomes rows asks run =
    let opens = opens-first workers (cut_within most bytes).given (cut_within most bytes).ending o jobs asks in
    record {
      opening = o;
      jobs = jobs;
      asks = asks;
      are_run = run;
      bank = bank workers opens.0 opens.1 o (reverse history) opens.2 run.legal;
    }

-- the text of jobs that were run is a report
is-report : (workers tries most : ℕ) (bytes : List ℕ) (history : List Entry) (outcomes : List (Outcome Infallible)) (rows : List Row)
    (out : List ℕ) → IsRun workers tries most bytes history outcomes rows → out ≡ report_text history outcomes rows
    → IsReport workers tries most bytes out
is-report workers tries most bytes history outcomes rows out run text = record {
  history = history;
  outcomes = outcomes;
  rows = rows;
  run = run;
  text = text;
  written = text ∙ text-same (opened_configuration run.opening) history tries run.jobs outcomes rows run.are_run.replay run.are_run.stand.each;
}

-- so does the text of its records
is-records : (workers tries most : ℕ) (bytes : List ℕ) (history : List Entry) (outcomes : List (Outcome Infallible)) (rows : List Row)
    (out : List ℕ) → IsRun workers tries most bytes history outcomes rows → out ≡ record_lines rows → IsRecords workers tries most bytes out
is-records workers tries most bytes history outcomes rows out run text = record {
  history = history;
  outcomes = outcomes;
  rows = rows;
  run = run;
  text = text;
}

-- so does the text of their objects
is-json : (workers tries most : ℕ) (bytes : List ℕ) (failed : List ℕ) (history : List Entry) (outcomes : List (Outcome Infallible))
    (rows : List Row) (out : List ℕ) → IsRun workers tries most bytes history outcomes rows → out ≡ json_text failed history outcomes rows
    → IsJson workers tries most bytes out
is-json workers tries most bytes failed history outcomes rows out run text = record {
  history = history;
  outcomes = outcomes;
  rows = rows;
  run = run;
  failed = failed;
  text = text;
}

-- the same if their operations are the output
is-history : AreCommitOrdered → AreSerializable → AreRecoverable → TranscriptsSpellTextbooks → (workers tries most : ℕ) (bytes : List ℕ)
    (history : List Entry) (outcomes : List (Outcome Infallible)) (rows : List Row) (out : List ℕ)
    → IsRun workers tries most bytes history outcomes rows → out ≡ transcript (reverse history) → IsHistory workers tries most bytes out
is-history ordered serializable recoverable spelled workers tries most bytes history outcomes rows out run text = record {
  history = history;
  outcomes = outcomes;
  rows = rows;
  run = run;
  textbook = record {
    commit_ordered = λ number numbers. ordered number numbers (opened_configuration run.opening) (reverse history) run.are_run.legal;
    serializable = λ number numbers. serializable number numbers (opened_configuration run.opening) (reverse history) run.are_run.legal;
    recoverable = λ number numbers. recoverable number numbers (opened_configuration run.opening) (reverse history) run.are_run.legal;
  };
  text = text;
  spelled = spelled;
}

-- what the text of jobs that were run is, and what becomes of it
module _ (ordered : AreCommitOrdered) (serializable : AreSerializable) (recoverable : AreRecoverable)
    (spelled : TranscriptsSpellTextbooks) where
  -- it is the requested output
  is-output : (o : Output) (workers tries most : ℕ) (bytes failed : List ℕ) (history : List Entry) (outcomes : List (Outcome Infallible))
      (rows : List Row) (out : List ℕ) → IsRun workers tries most bytes history outcomes rows
      → out ≡ output_text o failed history outcomes rows → IsOutput o workers tries most bytes out
  is-output output.Report workers tries most bytes failed history outcomes rows out run text =
      is-report workers tries most bytes history outcomes rows out run text
  is-output output.History workers tries most bytes failed history outcomes rows out run text =
      is-history ordered serializable recoverable spelled workers tries most bytes history outcomes rows out run text
  is-output output.Records workers tries most bytes failed history outcomes rows out run text =
      is-records workers tries most bytes history outcomes rows out run text
  is-output output.Json workers tries most bytes failed history outcomes rows out run text =
      is-json workers tries most bytes failed history outcomes rows out run text

  -- all of it was written
  pub writes-all : (o : Output) (workers tries most : ℕ) (rest held held' : Option (List ℕ)) (failed : List ℕ) (history : List Entry)
      (outcomes : List (Outcome Infallible)) (rows : List Row) (out : List ℕ)
      → IfSome rest (λ bytes. IsRun workers tries most bytes history outcomes rows) → out ≡ output_text o failed history outcomes rows
      → Appends held held' out → WritesAll o workers tries most rest held held'
  writes-all o workers tries most None held held' failed history outcomes rows out run text wrote = tt
  writes-all o workers tries most (Some bytes) held held' failed history outcomes rows out run text wrote =
      (out, is-output o workers tries most bytes failed history outcomes rows out run text, wrote)

  -- a part of it was written
  pub writes-part : (o : Output) (workers tries most : ℕ) (rest held held' : Option (List ℕ)) (failed : List ℕ) (history : List Entry)
      (outcomes : List (Outcome Infallible)) (rows : List Row) (out : List ℕ)
      → IfSome rest (λ bytes. IsRun workers tries most bytes history outcomes rows) → out ≡ output_text o failed history outcomes rows
      → ((k : ℕ) × Appends held held' (take k out)) → WritesPart o workers tries most rest held held'
  writes-part o workers tries most None held held' failed history outcomes rows out run text wrote = tt
  writes-part o workers tries most (Some bytes) held held' failed history outcomes rows out run text (k, wrote) =
      (out, k, is-output o workers tries most bytes failed history outcomes rows out run text, wrote)
