use Rattle.std.proofs.Common.{◌≡◌, ◌≤◌}
use Rattle.sgt_model.specs.ProcedureTexts.{procedure_text}
use Rattle.sgt_proc.specs.declared.flaw.Flaw.{Flaw}
use Rattle.sgt_proc.specs.Flaws.{number, HasFlaw}
use Rattle.sgt_proc.proofs.AllFlaws.{all_flaws}
use Rattle.sgt_proc.proofs.checked.check.Given as goal

abbrev pub invariant-loop-flaw : goal.invariant-loop-flaw
invariant-loop-flaw l =
    (l.flaw-items ≡ all_flaws) × ((f : Flaw) → number f ≤ l.flaw-index → HasFlaw f (procedure_text l.procedure) → ⊥)
