use Rattle.sgt_graph.proofs.RowSteps.{Spread}
use Rattle.sgt_graph.proofs.rows.add.Given as goal

abbrev pub invariant-loop-index : goal.invariant-loop-index
invariant-loop-index l = Spread l.to l.more l.fn.rows l.left l.rows

abbrev pub decreases-loop-index : goal.decreases-loop-index
decreases-loop-index l = l.left
