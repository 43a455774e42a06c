use Rattle.sgt_graph.proofs.RowSteps.{Lacking}
use Rattle.sgt_graph.proofs.rows.take_out_of.Given as goal

abbrev pub invariant-loop-row : goal.invariant-loop-row
invariant-loop-row l = Lacking l.of l.index l.fn.rows l.left l.rows

abbrev pub decreases-loop-row : goal.decreases-loop-row
decreases-loop-row l = l.left
