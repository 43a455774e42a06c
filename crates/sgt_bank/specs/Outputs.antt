-- What a run guarantees for each output mode.
use Rattle.std.specs.Prelude.{◌≡◌, ◌≢◌, ℕ, ◌+◌, ◌≤◌, List, reverse, take, Option, IfSome, Result, Err}
use Rattle.std.specs.Io.KnownBytes.{Appends}
use Rattle.sgt_model.specs.declared.entry.Entry.{Entry}
use Rattle.sgt_model.specs.Databases.{Row}
use Rattle.sgt_format.specs.RecordText.{record_lines}
use Rattle.sgt_audit.specs.declared.outcome.Outcome.{Outcome}
use Rattle.sgt_input.specs.declared.fault.Fault.{Fault}
use Rattle.sgt_input.specs.declared.fault.Fault.TheVariants as fault
use Rattle.sgt_notation.specs.Transcripts.{transcript}
use Rattle.sgt_bank.specs.declared.output.Output.{Output}
use Rattle.sgt_bank.specs.declared.output.Output.TheVariants as output
use Rattle.sgt_bank.specs.Inputs.{InputFails, IsOfText}
use Rattle.sgt_bank.specs.Reports.{report_text}
use Rattle.sgt_bank.specs.OutcomeJson.{json_text}
use Rattle.sgt_bank.specs.Banks.{IsHistory, IsJson, IsRecords, IsReport}

-- the text of a run whose jobs were tried in vain this often
abbrev pub output_text : {N : Type 0} → Output → List ℕ → List Entry → List (Outcome N) → List Row → List ℕ
output_text output.Report failed history outcomes rows = report_text history outcomes rows
output_text output.History failed history outcomes rows = transcript (reverse history)
output_text output.Records failed history outcomes rows = record_lines rows
output_text output.Json failed history outcomes rows = json_text failed history outcomes rows

-- what is written for an input of these bytes
abbrev pub IsOutput : Output → ℕ → ℕ → ℕ → List ℕ → List ℕ → Type 0
IsOutput output.Report workers tries most bytes out = IsReport workers tries most bytes out
IsOutput output.History workers tries most bytes out = IsHistory workers tries most bytes out
IsOutput output.Records workers tries most bytes out = IsRecords workers tries most bytes out
IsOutput output.Json workers tries most bytes out = IsJson workers tries most bytes out

-- the whole output is appended to what a sink held, if the bytes of the input are known
abbrev pub WritesAll : Output → ℕ → ℕ → ℕ → Option (List ℕ) → Option (List ℕ) → Option (List ℕ) → Type 0
WritesAll o workers tries most rest held held' = IfSome rest (λ bytes.
    (out : List ℕ) × IsOutput o workers tries most bytes out × Appends held held' out)

-- a prefix of the output is appended
abbrev pub WritesPart : Output → ℕ → ℕ → ℕ → Option (List ℕ) → Option (List ℕ) → Option (List ℕ) → Type 0
WritesPart o workers tries most rest held held' = IfSome rest (λ bytes.
    (out : List ℕ) × (k : ℕ) × IsOutput o workers tries most bytes out × Appends held held' (take k out))

-- a fault of the input is the first one that the input has
abbrev pub IsFirstFault : ℕ → ℕ → Option (List ℕ) → Fault → Type 0
IsFirstFault workers most rest f = IsOfText f → IfSome rest (λ bytes. InputFails workers most bytes f)

-- at most one byte more than the limit is read, and a read fails exactly if the run ends with `Reading`
abbrev pub CountsReads : {A : Type 0} → Result A Fault → ℕ → ℕ → ℕ → ℕ → ℕ → Type 0
CountsReads result most given given' failures failures' =
    (given' ≤ given + (most + 1))
    × (result ≢ Err fault.Reading → failures' ≡ failures)
    × (result ≡ Err fault.Reading → failures' ≡ failures + 1)

-- a write fails exactly if the run ends with `Writing`
abbrev pub CountsWrites : {A : Type 0} → Result A Fault → ℕ → ℕ → Type 0
CountsWrites result failures failures' =
    (result ≢ Err fault.Writing → failures' ≡ failures)
    × (result ≡ Err fault.Writing → failures' ≡ failures + 1)
