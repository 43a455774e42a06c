use Rattle.std.proofs.Common.{ℕ}
use Rattle.sgt_classes.specs.declared.operation.Action.TheVariants.{Write}
use Rattle.sgt_classes.specs.Histories.{Does}
use Rattle.sgt_classes.specs.Seen.{AreFineAbove, height}
use Rattle.sgt_classes.proofs.rigorous.ItemAccesses.unended_reader.Given as goal

abbrev pub invariant-loop-read : goal.invariant-loop-read
invariant-loop-read l = (t x : ℕ) → Does l.history l.place t (Write x) → AreFineAbove l.history l.place x t l.read

abbrev pub decreases-loop-read : goal.decreases-loop-read
decreases-loop-read l = height l.read
