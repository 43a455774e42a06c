-- What a check writes for each output, and how it ends.
use Rattle.std.specs.Prelude.{◌≡◌, ◌≢◌, ◌<◌, ◌↔◌, ℕ, Bool, true, List, [], length, ⊤}
use Rattle.sgt_classes.specs.declared.operation.Operation.{Operation}
use Rattle.sgt_classes.specs.Classes.{IsRecoverable}
use Rattle.sgt_classes.specs.Equivalence.{IsSerializable}
use Rattle.sgt_notation.specs.declared.history.History.{History}
use Rattle.sgt_notation.specs.Words.{words_of}
use Rattle.sgt_notation.specs.Readings.{AreRead, IsFirstFault, texts}
use Rattle.sgt_check.specs.declared.checked.Output.{Output}
use Rattle.sgt_check.specs.declared.checked.Output.TheVariants as output
use Rattle.sgt_check.specs.declared.checked.Verdict.{Verdict}
use Rattle.sgt_check.specs.declared.report.Report.{Report}
use Rattle.sgt_check.specs.declared.fault.CheckFault.{CheckFault}
use Rattle.sgt_check.specs.declared.fault.CheckFault.TheVariants.{Notation, NoOperations, TooLong}
use Rattle.sgt_check.specs.Reports.{IsReport, AreCounts}
use Rattle.sgt_check.specs.ReportText.{report_text}
use Rattle.sgt_check.specs.Graphs.{IsDrawn}
use Rattle.sgt_check.specs.Timelines.{IsPictured}

-- the text of a report on the history
pub record IsReported (h : History) (text : List ℕ) : Type 0 where
  pub report : Report
  pub found : IsReport h.operations.items report
  pub written : text ≡ report_text h report

-- the text of each output
abbrev pub IsOutput : Output → History → List ℕ → Type 0
IsOutput output.Report h text = IsReported h text
IsOutput output.Graph h text = IsDrawn h text
IsOutput output.Timeline h text = IsPictured 400 h text
IsOutput output.Screen h text = IsPictured 60 h text

-- the verdict: whether the history is serializable and recoverable
abbrev pub IsVerdict : List Operation → Bool → Type 0
IsVerdict h sound = (sound ≡ true) ↔ (IsSerializable h × IsRecoverable h)

-- What a check guarantees for each output. It writes the text of that output for the history in the input, and
-- returns the verdict on that history, which has an operation, and its counts.
pub record IsChecked (output : Output) (input written : List ℕ) (v : Verdict) : Type 0 where
  pub history : History
  pub read : AreRead (words_of input) (texts history) history.operations.items
  pub some : history.operations.items ≢ []
  pub lines : IsOutput output history written
  pub verdict : IsVerdict history.operations.items v.sound
  pub counts : AreCounts history.operations.items v.counts

-- an error of the input: it is too long, or its text is not a history, or has no word
abbrev pub IsFaultOf : List ℕ → CheckFault → Type 0
IsFaultOf input (Notation f) = IsFirstFault (words_of input) f
IsFaultOf input NoOperations = words_of input ≡ []
IsFaultOf input TooLong = 268435456 < length input
IsFaultOf input _ = ⊤
