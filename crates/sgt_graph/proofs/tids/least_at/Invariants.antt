use Rattle.std.proofs.Common.{◌≡◌, ℕ, true}
use Rattle.sgt_cycle.specs.Indices.{is_set}
use Rattle.sgt_graph.proofs.LeastIndices.{LeastPassed}
use Rattle.sgt_graph.proofs.tids.least_at.Given as goal

abbrev pub invariant-loop-index : goal.invariant-loop-index
invariant-loop-index l = record {
  within : (i : ℕ) → is_set l.left i ≡ true → is_set l.set i ≡ true;
  least : LeastPassed l.tids l.set l.left l.found;
}

abbrev pub decreases-loop-index : goal.decreases-loop-index
decreases-loop-index l = l.left
