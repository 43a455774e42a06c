use Rattle.std.proofs.Common.{ℕ}
use Rattle.sgt_classes.specs.declared.operation.Action.TheVariants.{Commit}
use Rattle.sgt_classes.specs.Histories.{Does}
use Rattle.sgt_classes.specs.Seen.{AreCleanAbove, height}
use Rattle.sgt_classes.proofs.recoverable.DirtyReads.unrecoverable.Given as goal

abbrev pub invariant-loop-read : goal.invariant-loop-read
invariant-loop-read l = (t : ℕ) → Does l.history l.place t Commit → AreCleanAbove l.history l.place t l.read

abbrev pub decreases-loop-read : goal.decreases-loop-read
decreases-loop-read l = height l.read
