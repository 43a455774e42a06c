use Rattle.std.proofs.Common.{◌≡◌, ◌≤◌, nat_eq, length, take}
use Rattle.std.specs.Prelude.{not}
use Rattle.std.specs.List.{filter}
use Rattle.sgt_graph.proofs.pair_graph.nodes_without.Given as goal

abbrev pub invariant-loop-node : goal.invariant-loop-node
invariant-loop-node l = record {
  left : l.left ≡ filter (λ u. not (nat_eq l.t u)) (take l.node-index l.nodes);
  few : length l.left ≤ l.node-index;
}
