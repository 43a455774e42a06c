use Rattle.sgt_graph.proofs.RowSteps.{ClosedBelow}
use Rattle.sgt_graph.proofs.relation.Relation.closure.Given as goal

abbrev pub invariant-loop-index : goal.invariant-loop-index
invariant-loop-index l = ClosedBelow l.fn.self l.index l.reached
