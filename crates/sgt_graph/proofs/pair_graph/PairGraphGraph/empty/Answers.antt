use Rattle.sgt_graph.proofs.Kept.{kept_none}
use Rattle.sgt_graph.proofs.pair_graph.PairGraphGraph.empty.Goals as goal

pub invariant_of-result : goal.invariant_of-result
invariant_of-result c = rw (c.new.ensures, c.new-2.ensures) kept_none
