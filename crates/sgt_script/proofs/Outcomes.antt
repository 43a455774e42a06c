-- Laws of a run's outcome: what it wrote obeys the laws of its output mode.
use Rattle.std.proofs.Common.{List}
use Rattle.std.specs.Prelude.{ℕ, Option, None, Some, IfSome}
use Rattle.sgt_model.specs.StoredValues.{CommittedAreValues}
use Rattle.sgt_model.specs.Laws.{HeadlineHolds}
use Rattle.sgt_smallbank.specs.Replays.{ReplayIsBank}
use Rattle.sgt_assembly.specs.Openings.{OpenedHoldValues}
use Rattle.sgt_input.specs.Lines.{Ending, cut_within}
use Rattle.sgt_input.specs.Ends.{End}
use Rattle.sgt_textbook.specs.Laws.{AreCommitOrdered, AreSerializable, AreRecoverable}
use Rattle.sgt_notation.specs.Transcripts.{TranscriptsSpellTextbooks}
use Rattle.sgt_script.specs.declared.output.Output.{Output}
use Rattle.sgt_script.specs.declared.output.Output.TheVariants.{Replies, History, Records, Json}
use Rattle.sgt_script.specs.Outcomes.{IsWhole, LawsOf}
use Rattle.sgt_script.specs.Scripts.{Execution, ScriptOf}
use Rattle.sgt_script.proofs.JsonLaws.{json-laws}
use Rattle.sgt_script.proofs.RecordLaws.{record-laws}
use Rattle.sgt_script.proofs.RunLaws.{history-laws, run-laws}
use Rattle.sgt_script.proofs.FirstLines.{Wrote}

module _ (headline : HeadlineHolds) (opened : OpenedHoldValues) (committed : CommittedAreValues) (bank : ReplayIsBank)
    (ordered : AreCommitOrdered) (serializable : AreSerializable) (recoverable : AreRecoverable) (spell : TranscriptsSpellTextbooks) where
  laws-hold : (w : Output) (ls : List (List ℕ)) (ending : Ending) (run : Option Execution) (out : List ℕ) (end : End)
      → ScriptOf w ls ending run out end → IfSome run (λ r. LawsOf w r out end)
  laws-hold Replies ls ending run out end script = run-laws headline opened committed bank ls ending run out end script
  laws-hold History ls ending run out end script =
      history-laws headline opened committed bank ordered serializable recoverable spell ls ending run out end script
  laws-hold Records ls ending run out end script = record-laws headline opened committed bank ls ending run out end script
  laws-hold Json ls ending run out end script = json-laws headline opened committed bank ls ending run out end script

  pub with-laws : (w : Output) (most : ℕ) (rest held held' : Option (List ℕ)) (end : End) → Wrote w most rest held held' end → IsWhole w most rest held held' end
  with-laws w most None held held' end wrote = tt
  with-laws w most (Some bytes) held held' end (run, out, appended, script) = record {
    run = run;
    out = out;
    appends = appended;
    script = script;
    laws = laws-hold w (cut_within most bytes).given (cut_within most bytes).ending run out end script;
  }
