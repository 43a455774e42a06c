use Rattle.sgt_classes.specs.Seen.{IsTopWrite, height}
use Rattle.sgt_classes.proofs.avoiding.Sources.standing.Given as goal

abbrev pub invariant-loop-top : goal.invariant-loop-top
invariant-loop-top l = IsTopWrite l.history l.place l.fn.item l.top

abbrev pub decreases-loop-top : goal.decreases-loop-top
decreases-loop-top l = height l.top
