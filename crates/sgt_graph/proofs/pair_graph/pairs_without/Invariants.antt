use Rattle.std.proofs.Common.{◌≡◌, ◌≤◌, length, take}
use Rattle.std.specs.List.{filter}
use Rattle.sgt_graph.specs.PairGraphs.{is_apart}
use Rattle.sgt_graph.proofs.pair_graph.pairs_without.Given as goal

abbrev pub invariant-loop-pair : goal.invariant-loop-pair
invariant-loop-pair l = record {
  left : l.left ≡ filter (is_apart l.t) (take l.pair-index l.pairs);
  few : length l.left ≤ l.pair-index;
}
