use Rattle.sgt_graph.proofs.RowSteps.{United}
use Rattle.sgt_graph.proofs.rows.union.Given as goal

abbrev pub invariant-loop-index : goal.invariant-loop-index
invariant-loop-index l = United l.rows l.of l.left l.found

abbrev pub decreases-loop-index : goal.decreases-loop-index
decreases-loop-index l = l.left
