use Rattle.std.proofs.Common.{◌≡◌, take}
use Rattle.sgt_graph.proofs.Insertion.{Adds}
use Rattle.sgt_graph.proofs.pair_graph.PairGraphGraph.link.Given as goal

abbrev pub invariant-loop-pred : goal.invariant-loop-pred
invariant-loop-pred l = record {
  nodes : l.self.0 ≡ l.fn.self.0;
  pairs : Adds l.fn.self.1 l.self.1 l.t (take l.pred-index l.preds);
}
