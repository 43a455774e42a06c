-- The laws of a script's run in the output mode Json.
use Rattle.std.proofs.Common.{List, [], ◌∷◌}
use Rattle.std.specs.Prelude.{ℕ, Option, None, Some, IfSome}
use Rattle.sgt_model.specs.StoredValues.{CommittedAreValues}
use Rattle.sgt_model.specs.Laws.{HeadlineHolds}
use Rattle.sgt_smallbank.specs.Replays.{ReplayIsBank}
use Rattle.sgt_assembly.specs.Openings.{OpenedHoldValues}
use Rattle.sgt_input.specs.Lines.{Ending}
use Rattle.sgt_input.specs.Ends.{End}
use Rattle.sgt_script.specs.declared.output.Output.TheVariants.{Json}
use Rattle.sgt_script.specs.Scripts.{Execution, ScriptOf}
use Rattle.sgt_script.specs.RunLaws.{JsonLaws}
use Rattle.sgt_script.proofs.RunLaws.{chain-leaves, closing-same, parts-laws}

module _ (headline : HeadlineHolds) (opened : OpenedHoldValues) (settle : CommittedAreValues) (bank : ReplayIsBank) where
  pub json-laws : (ls : List (List ℕ)) (ending : Ending) (run : Option Execution) (out : List ℕ) (end : End)
      → ScriptOf Json ls ending run out end → IfSome run (λ r. JsonLaws r out end)
  json-laws [] ending None out end s = tt
  json-laws [] ending (Some run) out end s = absurd s
  json-laws (l ∷ ls) ending None out end s = tt
  json-laws (l ∷ ls) ending (Some run) out end s = record {
    parts = parts-laws headline opened settle bank Json l ls ending run out end s;
    last = s.output.last;
    closing = closing-same Json _ _ end s.output.last (chain-leaves headline run.configuration run.answers s.output.legal) s.output.closing;
    written = s.output.text;
  }
