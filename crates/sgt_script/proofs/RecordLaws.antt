-- The laws of a script's run in the output mode Records.
use Rattle.std.proofs.Common.{◌≡◌, refl, sym, ap, ◌∙◌, subst, List, [], ◌∷◌, ◌++◌}
use Rattle.std.specs.Prelude.{ℕ, Option, None, Some, IfSome}
use Rattle.sgt_model.specs.StoredValues.{CommittedAreValues}
use Rattle.sgt_model.specs.Laws.{HeadlineHolds}
use Rattle.sgt_smallbank.specs.Replays.{ReplayIsBank}
use Rattle.sgt_assembly.specs.Openings.{OpenedHoldValues}
use Rattle.sgt_input.specs.Lines.{Ending}
use Rattle.sgt_input.specs.Ends.{End}
use Rattle.sgt_script.specs.declared.output.Output.TheVariants.{Records}
use Rattle.sgt_script.specs.Scripts.{Execution, Closing, ScriptOf}
use Rattle.sgt_script.specs.RunLaws.{RecordLaws, chained}
use Rattle.sgt_script.proofs.Beginnings.{no-answers}
use Rattle.sgt_script.proofs.RunLaws.{chain-leaves, closing-same, parts-laws}

module _ (headline : HeadlineHolds) (opened : OpenedHoldValues) (settle : CommittedAreValues) (bank : ReplayIsBank) where
  pub record-laws : (ls : List (List ℕ)) (ending : Ending) (run : Option Execution) (out : List ℕ) (end : End)
      → ScriptOf Records ls ending run out end → IfSome run (λ r. RecordLaws r out end)
  record-laws [] ending None out end s = tt
  record-laws [] ending (Some run) out end s = absurd s
  record-laws (l ∷ ls) ending None out end s = tt
  record-laws (l ∷ ls) ending (Some run) out end s =
      let last : out ≡ s.output.last = s.output.text ∙ ap (λ text. text ++ s.output.last) (no-answers Records run.answers refl) in
      record {
        parts = parts-laws headline opened settle bank Records l ls ending run out end s;
        written = subst (Closing Records (chained run.configuration run.answers).last end) (sym last)
            (closing-same Records _ _ end s.output.last (chain-leaves headline run.configuration run.answers s.output.legal)
            s.output.closing);
      }
