use Rattle.std.proofs.Common.{take}
use Rattle.sgt_graph.proofs.Least.{LeastAmong}
use Rattle.sgt_graph.proofs.pair_graph.PairGraphGraph.least_pred.Given as goal

abbrev pub invariant-loop-pair : goal.invariant-loop-pair
invariant-loop-pair l = LeastAmong (take l.pair-index l.self.1) l.t l.least
