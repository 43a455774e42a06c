-- What an unfinished run has written: a prefix of what a whole run writes.
use Rattle.std.specs.Prelude.{◌≡◌, ℕ, ⊤, List, ◌++◌, Option, Some, Err, ◌⊎◌}
use Rattle.std.specs.Io.KnownBytes.{Appends}
use Rattle.sgt_model.specs.Configurations.{Configuration}
use Rattle.sgt_input.specs.declared.fault.Fault.{Fault}
use Rattle.sgt_input.specs.declared.fault.Fault.TheVariants as fault
use Rattle.sgt_input.specs.Lines.{Cut}
use Rattle.sgt_input.specs.Ends.{End}
use Rattle.sgt_script.specs.declared.output.Output.{Output}
use Rattle.sgt_script.specs.Parts.{Answer}
use Rattle.sgt_script.specs.Scripts.{Execution, RunOutput, Script}

-- a prefix of these bytes is appended to the known bytes
pub record AppendsPart (old new : Option (List ℕ)) (bytes : List ℕ) : Type 0 where
  pub written : List ℕ
  pub rest : List ℕ
  pub parts : bytes ≡ written ++ rest
  pub appends : Appends old new written

-- such a run of a script wrote this text, and how it ended
abbrev pub Wholes : Type 1
Wholes = Execution → List ℕ → End → Type 0

-- some whole run writes this text and then the rest of its own: its first lines got these answers
pub record Begins (Whole : Wholes) (answered : List Answer) (out : List ℕ) : Type 0 where
  pub run : Execution
  pub newer : List Answer
  pub begins : run.answers ≡ newer ++ answered
  pub rest : List ℕ
  pub end : End
  pub whole : Whole run (out ++ rest) end

-- the whole runs of a script over these bytes that have a valid opening
abbrev pub ScriptRuns : Output → ℕ → List ℕ → Wholes
ScriptRuns w most bytes run out end = Script w most bytes (Some run) out end

-- the whole runs after an opening, over these lines, from number n on
abbrev pub LineRuns : Output → Configuration → ℕ → Cut → Wholes
LineRuns w s n c run out end = (run.configuration ≡ s) × RunOutput w run n c.given c.ending out end

-- these bytes are written, and this fault is reported; or a write failed: a prefix is written, and `Writing` is
-- reported
abbrev pub WritesAt : Fault → Fault → Option (List ℕ) → Option (List ℕ) → List ℕ → Type 0
WritesAt f reported old new bytes = ((reported ≡ f) × Appends old new bytes) ⊎ ((reported ≡ fault.Writing) × AppendsPart old new bytes)

-- the run stopped after the reply to a line: a read or an allocation failed
abbrev pub IsStop : End → Type 0
IsStop (Err fault.Reading) = ⊤
IsStop (Err fault.NoMemory) = ⊤
IsStop _ = ⊥
