use Rattle.sgt_classes.proofs.ClosedPaths.{Closes}
use Rattle.sgt_classes.proofs.cycles.closed_path.Given as goal

abbrev pub invariant-loop-passed : goal.invariant-loop-passed
invariant-loop-passed l = Closes l.path l.cycle.items l.met l.passed
