-- What the run of a bank's jobs writes.
use Rattle.std.specs.Prelude.{◌≡◌, ℕ, ⊤, List, reverse}
use Rattle.std.specs.List.{All}
use Rattle.std.specs.declared.convert.Infallible.{Infallible}
use Rattle.sgt_model.specs.declared.entry.Entry.{Entry}
use Rattle.sgt_model.specs.Contents.{Key}
use Rattle.sgt_model.specs.Databases.{Row, IsByKey, contents_of}
use Rattle.sgt_model.specs.Paths.{Acyclic}
use Rattle.sgt_model.specs.Pairs.{Pair}
use Rattle.sgt_model.specs.Legality.{Legal}
use Rattle.sgt_model.specs.Replay.{folded, ReplayAgrees}
use Rattle.sgt_model.specs.Aborts.{AbortsHaveCause}
use Rattle.sgt_model.specs.CommitOrder.{CommitsInOrder}
use Rattle.sgt_smallbank.specs.Replays.{CommitsAreBank}
use Rattle.sgt_format.specs.declared.opening.Opening.{Opening}
use Rattle.sgt_format.specs.RecordText.{record_lines}
use Rattle.sgt_assembly.specs.Openings.{opened_configuration}
use Rattle.sgt_audit.specs.declared.job.Job.{Job}
use Rattle.sgt_audit.specs.declared.outcome.Outcome.{Outcome}
use Rattle.sgt_audit.specs.declared.outcome.Outcome.TheVariants as outcome
use Rattle.sgt_audit.specs.AllOutcomes.{OutcomesStand}
use Rattle.sgt_textbook.specs.Laws.{TextbookLaws}
use Rattle.sgt_notation.specs.Transcripts.{TranscriptsSpellTextbooks, transcript}
use Rattle.sgt_bank.specs.Inputs.{InputRequests}
use Rattle.sgt_bank.specs.OutcomeJson.{json_text}
use Rattle.sgt_bank.specs.Reports.{report_text}
use Rattle.sgt_bank.specs.SerialText.{serial_text}

-- the job was started, and its worker did not leave: it committed, its procedure raised a code, it had no tries left,
-- its start was refused, or an allocation failed in a call for it
abbrev pub HasRun : {N : Type 0} → Outcome N → Type 0
HasRun (outcome.Done n) = ⊤
HasRun (outcome.Asked n) = ⊤
HasRun (outcome.Gave attempts) = ⊤
HasRun (outcome.Refused n) = ⊤
HasRun (outcome.Left note) = ⊥
HasRun outcome.Untaken = ⊥
HasRun outcome.NoMemory = ⊤

-- jobs were run after an opening. The history is legal, each outcome agrees with it, and the parts of the headline
-- hold. The database is the one that the committed transactions leave, run one after another in commit order
pub record AreRun (opening : Opening) (jobs : List Job) (workers tries : ℕ) (history : List Entry) (outcomes : List (Outcome Infallible)) (rows : List Row) : Type 0 where
  pub legal : Legal (opened_configuration opening) (reverse history)
  pub stand : OutcomesStand history jobs outcomes workers tries
  pub each : All HasRun outcomes
  pub replay : ReplayAgrees (opened_configuration opening) (reverse history)
  pub no_cycle : Acyclic (Pair (reverse history))
  pub causes : AbortsHaveCause (opened_configuration opening) (reverse history)
  pub order : CommitsInOrder (reverse history)
  pub database : (k : Key) → contents_of rows k ≡ (folded (opened_configuration opening) (reverse history)).last k
  pub by_key : IsByKey rows

-- an input of these bytes, with this limit, was run: its jobs, after its opening. Each committed or refused transaction of one of
-- SmallBank's five procedures did the bank's arithmetic, on what those before it left
pub record IsRun (workers tries most : ℕ) (bytes : List ℕ) (history : List Entry) (outcomes : List (Outcome Infallible)) (rows : List Row) : Type 0 where
  pub opening : Opening
  pub jobs : List Job
  pub asks : InputRequests workers most bytes opening jobs
  pub are_run : AreRun opening jobs workers tries history outcomes rows
  pub bank : CommitsAreBank (opened_configuration opening) (reverse history)

-- the output for an input of these bytes in the mode History: the transcript of the history of the jobs, which spells
-- the operations of the textbook's history
pub record IsHistory (workers tries most : ℕ) (bytes out : List ℕ) : Type 0 where
  pub history : List Entry
  pub outcomes : List (Outcome Infallible)
  pub rows : List Row
  pub run : IsRun workers tries most bytes history outcomes rows
  pub textbook : TextbookLaws (reverse history)
  pub text : out ≡ transcript (reverse history)
  pub spelled : TranscriptsSpellTextbooks

-- the output for an input of these bytes in the mode Records: the record lines of the database that the serial run of
-- the jobs leaves
pub record IsRecords (workers tries most : ℕ) (bytes out : List ℕ) : Type 0 where
  pub history : List Entry
  pub outcomes : List (Outcome Infallible)
  pub rows : List Row
  pub run : IsRun workers tries most bytes history outcomes rows
  pub text : out ≡ record_lines rows

-- the output for an input of these bytes in the mode Report: the text of a report on its jobs. Each `committed` line
-- has the answers that the serial run gives the job's transaction. Each `requested` line of a transaction refused at its
-- commit has the code
pub record IsReport (workers tries most : ℕ) (bytes out : List ℕ) : Type 0 where
  pub history : List Entry
  pub outcomes : List (Outcome Infallible)
  pub rows : List Row
  pub run : IsRun workers tries most bytes history outcomes rows
  pub text : out ≡ report_text history outcomes rows
  pub written : out ≡ serial_text (opened_configuration run.opening) history outcomes rows

-- the output for an input of these bytes in the mode Json: the objects of the outcomes of its jobs, and then the record
-- lines of the database. How often a job was tried in vain is what was seen of the run: these counts can be any
pub record IsJson (workers tries most : ℕ) (bytes out : List ℕ) : Type 0 where
  pub history : List Entry
  pub outcomes : List (Outcome Infallible)
  pub rows : List Row
  pub run : IsRun workers tries most bytes history outcomes rows
  pub failed : List ℕ
  pub text : out ≡ json_text failed history outcomes rows
