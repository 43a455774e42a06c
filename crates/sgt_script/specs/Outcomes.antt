-- What a run of a script guarantees in each output mode: what it has written when it ends, and which failures it
-- reports.
use Rattle.std.specs.Prelude.{◌≡◌, ◌≢◌, ℕ, ◌+◌, List, [], Option, Some, IfSome, Err, ◌⊎◌}
use Rattle.std.specs.Io.KnownBytes.{Appends}
use Rattle.sgt_input.specs.declared.fault.Fault.TheVariants as fault
use Rattle.sgt_input.specs.Ends.{End, IsExact}
use Rattle.sgt_script.specs.declared.output.Output.{Output}
use Rattle.sgt_script.specs.declared.output.Output.TheVariants.{Replies, History, Records, Json}
use Rattle.sgt_script.specs.Answering.{AnswersScriptRead}
use Rattle.sgt_script.specs.Beginnings.{Begins, ScriptRuns}
use Rattle.sgt_script.specs.Parts.{Answer, answers_text}
use Rattle.sgt_script.specs.RunLaws.{HistoryLaws, JsonLaws, RecordLaws, RunLaws}
use Rattle.sgt_script.specs.Scripts.{Execution, Script}

-- the laws of a run, by its output mode
abbrev pub LawsOf : Output → Execution → List ℕ → End → Type 0
LawsOf Replies run out end = RunLaws run out end
LawsOf History run out end = HistoryLaws run out
LawsOf Records run out end = RecordLaws run out end
LawsOf Json run out end = JsonLaws run out end

-- a run over these bytes ended well or at a fault of the script. It appended what such a run writes. Its execution
-- obeys the laws; there is none if the opening is refused.
pub record WritesWhole (mode : Output) (most : ℕ) (bytes : List ℕ) (old new : Option (List ℕ)) (end : End) : Type 0 where
  pub run : Option Execution
  pub out : List ℕ
  pub appends : Appends old new out
  pub script : Script mode most bytes run out end
  pub laws : IfSome run (λ r. LawsOf mode r out end)

-- a run over these bytes stopped at a failed read or a failed allocation, with these bytes left. It appended the text
-- of some first answers of a whole run. After a failed read these are the answers to all whole lines that were read.
-- In the mode Records that is no text.
pub record WritesAnswers (mode : Output) (most : ℕ) (bytes : List ℕ) (left old new : Option (List ℕ)) (end : End) : Type 0 where
  pub answered : List Answer
  pub appends : Appends old new (answers_text mode answered)
  pub begins : (answered ≡ []) ⊎ Begins (ScriptRuns mode most bytes) answered (answers_text mode answered)
  pub read : end ≡ Err fault.Reading → AnswersScriptRead (Some bytes) left answered
  pub nothing : mode ≡ Records → Appends old new []

-- a write failed in a run over these bytes. It had appended a prefix of what a whole run writes.
pub record WritesPart (mode : Output) (most : ℕ) (bytes : List ℕ) (old new : Option (List ℕ)) : Type 0 where
  pub answered : List Answer
  pub out : List ℕ
  pub appends : Appends old new out
  pub begins : Begins (ScriptRuns mode most bytes) answered out

-- what a run has written when it ended well or at a fault of the script, if its bytes are known
abbrev pub IsWhole : Output → ℕ → (input old new : Option (List ℕ)) → End → Type 0
IsWhole mode most input old new end = IfSome input (λ bytes. WritesWhole mode most bytes old new end)

-- what it has written when it stopped
abbrev pub IsStopped : Output → ℕ → (input left old new : Option (List ℕ)) → End → Type 0
IsStopped mode most input left old new end = IfSome input (λ bytes. WritesAnswers mode most bytes left old new end)

-- what it has written when a write failed
abbrev pub IsCutOff : Output → ℕ → (input old new : Option (List ℕ)) → Type 0
IsCutOff mode most input old new = IfSome input (λ bytes. WritesPart mode most bytes old new)

-- the source's count of failures rises by one if the run ends with Reading. It stays the same if the run ends well or
-- at a fault of the script.
abbrev pub CountsReads : End → (old new : ℕ) → Type 0
CountsReads end old new = (IsExact end → new ≡ old) × (end ≡ Err fault.Reading → new ≡ old + 1)

-- the sink's count of failures rises by one if the run ends with Writing, and else stays the same
abbrev pub CountsWrites : End → (old new : ℕ) → Type 0
CountsWrites end old new = (end ≢ Err fault.Writing → new ≡ old) × (end ≡ Err fault.Writing → new ≡ old + 1)
