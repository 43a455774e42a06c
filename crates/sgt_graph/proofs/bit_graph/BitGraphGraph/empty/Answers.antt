use Rattle.std.proofs.Common.{refl}
use Rattle.sgt_graph.specs.BitGraphs.{index_of}
use Rattle.sgt_graph.proofs.RowSteps.{zeros, none_in}
use Rattle.sgt_graph.proofs.BitSteps.{empty_graph, none_placed}
use Rattle.sgt_graph.proofs.bit_graph.BitGraphGraph.empty.Goals as goal

pub invariant_of-result : goal.invariant_of-result
invariant_of-result c = empty_graph (zeros 32) _ _ refl c.empty.ensures c.empty-2.ensures

pub returns-clause-nodes : goal.returns-clause-nodes
returns-clause-nodes c u = none_placed 0 (zeros 32) u none_in

pub returns-clause-pairs : goal.returns-clause-pairs
returns-clause-pairs c u v = c.empty.ensures (index_of 0 (zeros 32) u) (index_of 0 (zeros 32) v)
