use Rattle.std.proofs.Common.{◌≡◌, ◌≤◌, length, take, map, slice_index}
use Rattle.sgt_graph.proofs.tids.tids_at.Given as goal

abbrev pub invariant-loop-index : goal.invariant-loop-index
invariant-loop-index l = record {
  named : l.named ≡ map (λ i. slice_index l.tids i) (take l.index-index l.cycle);
  few : length l.named ≤ l.index-index;
}
