-- How many lines of a script are answered.
use Rattle.std.specs.Prelude.{◌≡◌, ℕ, ◌+◌, ⊤, List, [], ◌∷◌, ◌++◌, length, Option, None, Some, Ok}
use Rattle.std.specs.Io.KnownBytes.{Appends, Consumes}
use Rattle.sgt_model.specs.Configurations.{Configuration}
use Rattle.sgt_format.specs.FilledOpenings.{AreRecordLines}
use Rattle.sgt_format.specs.declared.script_line.ScriptLine.{ScriptLine}
use Rattle.sgt_input.specs.Lines.{Cut, AtEnd, whole_lines}
use Rattle.sgt_input.specs.Ends.{End}
use Rattle.sgt_input.specs.Spelled.{spelled, end_of}
use Rattle.sgt_script.specs.declared.output.Output.{Output}
use Rattle.sgt_script.specs.Parts.{Answer, LegalAnswer, LegalRun, Part, answer_text, requested, lines_of, part_after, answers_text}
use Rattle.sgt_script.specs.Scripts.{script_line_at}

-- known lines from number n on start with those that request this; after them, from number m on, are these
abbrev pub BeginWith : ℕ → Option Cut → List ScriptLine → ℕ → Option Cut → Type 0
BeginWith n None requested m new = ⊤
BeginWith n (Some old) requested m None = ⊥
BeginWith n (Some old) requested m (Some new) = (spelled script_line_at n old.given ≡ requested ++ spelled script_line_at m new.given) × (end_of script_line_at n old.given old.ending ≡ end_of script_line_at m new.given new.ending)

-- known lines from number n on request nothing, and end so
abbrev pub NoLine : ℕ → Option Cut → End → Type 0
NoLine n None end = ⊤
NoLine n (Some c) end = (spelled script_line_at n c.given ≡ []) × (end_of script_line_at n c.given c.ending ≡ end)

-- known lines from number n on are exactly those that got these answers, and end so
abbrev pub AllAnswered : ℕ → Option Cut → List Answer → End → Type 0
AllAnswered n None answers end = ⊤
AllAnswered n (Some c) answers end = (spelled script_line_at n c.given ≡ lines_of answers) × (end_of script_line_at n c.given c.ending ≡ end)

-- each of these lines, from number n on, requests something, and got these answers
abbrev pub AreAnswered : ℕ → List (List ℕ) → List Answer → Type 0
AreAnswered n ls answers = (spelled script_line_at n ls ≡ lines_of answers) × (end_of script_line_at n ls AtEnd ≡ Ok tt)

-- between the two, bytes were read whose whole lines, from number n on, got these answers
abbrev pub AnswersRead : ℕ → Option (List ℕ) → Option (List ℕ) → List Answer → Type 0
AnswersRead n old new answers = (read : List ℕ) × Consumes old new read × AreAnswered n (whole_lines read) answers

-- these lines start with record lines, from number 2 on, and the lines after those got these answers
pub record AreAfterRecords (later : List (List ℕ)) (answers : List Answer) : Type 0 where
  pub records : List (List ℕ)
  pub others : List (List ℕ)
  pub parts : later ≡ records ++ others
  pub are : AreRecordLines records
  pub answered : AreAnswered (2 + length records) others answers

-- of these whole lines of a script, those after line 1 and its record lines got these answers
abbrev pub AreLaterAnswered : List (List ℕ) → List Answer → Type 0
AreLaterAnswered [] answers = answers ≡ []
AreLaterAnswered (line ∷ later) answers = AreAfterRecords later answers

-- these bytes of a script were read, and their whole lines got these answers
abbrev pub AnswersScriptRead : Option (List ℕ) → Option (List ℕ) → List Answer → Type 0
AnswersScriptRead old new answers = (read : List ℕ) × Consumes old new read × AreLaterAnswered (whole_lines read) answers

-- a line was answered: the current part became the one after that answer, and the text of the answer was appended
pub record AnswersLine (w : Output) (line : ScriptLine) (old new : Part) (before after : List ℕ) : Type 0 where
  pub answer : Answer
  pub of_line : requested answer ≡ line
  pub legal : LegalAnswer old answer
  pub part : new ≡ part_after answer old
  pub text : after ≡ before ++ answer_text w answer

-- all known lines from number n on were answered, up to this end: the answers are legal, and their text was written
pub record AnswersAll (w : Output) (s : Configuration) (n : ℕ) (known : Option Cut) (old new : Option (List ℕ)) (end : End) : Type 0 where
  pub answers : List Answer
  pub legal : LegalRun s answers
  pub all : AllAnswered n known answers end
  pub written : Appends old new (answers_text w answers)

-- the first of the known lines from number n on were answered. The answers are legal. What is written is their text
-- without the rest; unless a write failed, there is no rest. If a read failed, these are all whole lines read
pub record AnswersSome (w : Output) (s : Configuration) (n : ℕ) (known : Option Cut) (from to old new : Option (List ℕ)) (wrote unread : Type 0) : Type 0 where
  pub answers : List Answer
  pub next : ℕ
  pub left : Option Cut
  pub legal : LegalRun s answers
  pub answered : BeginWith n known (lines_of answers) next left
  pub written : List ℕ
  pub appends : Appends old new written
  pub rest : List ℕ
  pub parts : answers_text w answers ≡ written ++ rest
  pub all : wrote → rest ≡ []
  pub read : unread → AnswersRead n from to answers
