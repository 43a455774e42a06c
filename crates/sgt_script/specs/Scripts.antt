-- What the run of a script writes, and how it ends.
use Rattle.std.specs.Prelude.{◌≡◌, ◌≢◌, ℕ, List, [], ◌∷◌, ◌++◌, ◌⊎◌, Option, None, Some, Result, Ok, Err}
use Rattle.sgt_model.specs.Contents.{Key, Contents}
use Rattle.sgt_model.specs.Databases.{Row, IsByKey, contents_of}
use Rattle.sgt_model.specs.Configurations.{Configuration}
use Rattle.sgt_format.specs.ScriptLines.{script_line_of}
use Rattle.sgt_format.specs.declared.script_line.ScriptLine.{ScriptLine}
use Rattle.sgt_format.specs.Openings.{Refuses}
use Rattle.sgt_format.specs.FilledOpenings.{OpensWith, RefusesRecord, after_records, leading_records, number_after}
use Rattle.sgt_format.specs.DatabaseText.{database_text}
use Rattle.sgt_format.specs.RecordText.{record_lines}
use Rattle.sgt_format.specs.declared.opening.Opening.{Opening}
use Rattle.sgt_format.specs.declared.errors.OpeningError.{OpeningError}
use Rattle.sgt_format.specs.declared.errors.OpeningError.TheVariants as opening_error
use Rattle.sgt_assembly.specs.Openings.{opened_configuration}
use Rattle.sgt_input.specs.declared.fault.Fault.{Fault}
use Rattle.sgt_input.specs.declared.fault.Fault.TheVariants as fault
use Rattle.sgt_input.specs.Lines.{Ending, cut_within}
use Rattle.sgt_input.specs.Ends.{End, fault_of_opening, no_opening}
use Rattle.sgt_input.specs.Spelled.{at_line, spelled, end_of}
use Rattle.sgt_script.specs.declared.output.Output.{Output}
use Rattle.sgt_script.specs.declared.output.Output.TheVariants.{Replies, History, Records, Json}
use Rattle.sgt_script.specs.Parts.{Answer, LegalRun, left_by, lines_of, part_of, answers_text}

-- what line n requests, or its fault
abbrev pub script_line_at : ℕ → List ℕ → Result ScriptLine Fault
script_line_at n line = at_line n (script_line_of line)

-- what follows the answers of a run that ended well, by the output mode: the database with these contents; nothing;
-- or, in the modes Records and Json, these contents as record lines
abbrev pub Last : Output → Contents → List ℕ → Type 0
Last Replies m last = (rows : List Row) × IsByKey rows × ((k : Key) → contents_of rows k ≡ m k) × (last ≡ database_text rows)
Last History m last = last ≡ []
Last Records m last = (rows : List Row) × IsByKey rows × ((k : Key) → contents_of rows k ≡ m k) × (last ≡ record_lines rows)
Last Json m last = (rows : List Row) × IsByKey rows × ((k : Key) → contents_of rows k ≡ m k) × (last ≡ record_lines rows)

-- what follows the answers; nothing at a fault
abbrev pub Closing : Output → Contents → End → List ℕ → Type 0
Closing w m (Ok _) last = Last w m last
Closing w m (Err fault) last = last ≡ []

-- the execution of a script: what it started from, and the answers to its lines, newest first
pub record Execution : Type 0 where
  pub configuration : Configuration
  pub answers : List Answer

-- what a run over these lines after the opening, from number n on, writes: the text of legal answers to them, and the
-- closing text for the contents that the last part leaves
pub record RunOutput (w : Output) (run : Execution) (n : ℕ) (later : List (List ℕ)) (ending : Ending) (out : List ℕ) (end : End) : Type 0 where
  pub last : List ℕ
  pub legal : LegalRun run.configuration run.answers
  pub lines_are : lines_of run.answers ≡ spelled script_line_at n later
  pub end_is : end ≡ end_of script_line_at n later ending
  pub closing : Closing w (left_by (part_of run.configuration run.answers)) end last
  pub text : out ≡ answers_text w run.answers ++ last

-- line 1 and the record lines after it are an opening, and the lines after those are answered
pub record Opened (w : Output) (line : List ℕ) (later : List (List ℕ)) (ending : Ending) (run : Execution) (out : List ℕ) (end : End) : Type 0 where
  pub opening : Opening
  pub opens : OpensWith 1 line (leading_records later) opening
  pub configuration : run.configuration ≡ opened_configuration opening
  pub output : RunOutput w run (number_after later) (after_records later) ending out end

-- line 1 is refused as an opening
pub record Refused (line out : List ℕ) (end : End) : Type 0 where
  pub error : OpeningError
  pub refuses : Refuses 1 line error
  pub known : error ≢ opening_error.NoMemory
  pub nothing : out ≡ []
  pub end_is : end ≡ Err (fault_of_opening error)

-- line 1 is an opening, and a record line after it is refused
pub record RefusedRecord (line : List ℕ) (later : List (List ℕ)) (out : List ℕ) (end : End) : Type 0 where
  pub bad : ℕ
  pub refuses : RefusesRecord 1 line (leading_records later) bad
  pub nothing : out ≡ []
  pub end_is : end ≡ Err (fault.BadRecord bad)

-- there is no line 1, and nothing is written
abbrev pub Unopened : Ending → List ℕ → End → Type 0
Unopened ending out end = (out ≡ []) × (end ≡ no_opening ending)

-- what a run over these lines writes: with an execution if the opening is valid, and else without one
abbrev pub ScriptOf : Output → List (List ℕ) → Ending → Option Execution → List ℕ → End → Type 0
ScriptOf w [] ending None out end = Unopened ending out end
ScriptOf w [] ending (Some run) out end = ⊥
ScriptOf w (line ∷ later) ending None out end = Refused line out end ⊎ RefusedRecord line later out end
ScriptOf w (line ∷ later) ending (Some run) out end = Opened w line later ending run out end

-- what a script's run over these bytes writes, and how it ends. So many bytes are its limit
abbrev pub Script : Output → ℕ → List ℕ → Option Execution → List ℕ → End → Type 0
Script w most bytes run out end = ScriptOf w (cut_within most bytes).given (cut_within most bytes).ending run out end
