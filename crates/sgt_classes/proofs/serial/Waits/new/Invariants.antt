use Rattle.sgt_classes.proofs.FirstWaits.{AreLookedAt}
use Rattle.sgt_classes.proofs.serial.Waits.new.Given as goal

abbrev pub invariant-loop-place : goal.invariant-loop-place
invariant-loop-place l = AreLookedAt l.fn.edges l.fn.commits l.place l.waits
