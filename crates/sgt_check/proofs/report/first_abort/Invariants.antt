use Rattle.std.specs.Prelude.{ℕ, ◌<◌}
use Rattle.sgt_classes.specs.declared.operation.Action.TheVariants.{Abort}
use Rattle.sgt_classes.specs.Histories.{Does}
use Rattle.sgt_check.proofs.report.first_abort.Given as goal

abbrev pub invariant-loop-place : goal.invariant-loop-place
invariant-loop-place l = (i : ℕ) → i < l.place → ¬ Does l.history i l.transaction Abort
