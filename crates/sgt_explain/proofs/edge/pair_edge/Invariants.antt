use Rattle.std.proofs.Common.{◌≤◌, length}
use Rattle.sgt_explain.proofs.Pairs.{PairFrom}
use Rattle.sgt_explain.proofs.edge.pair_edge.Given as goal

abbrev pub invariant-loop-rest : goal.invariant-loop-rest
invariant-loop-rest l = record {
  within : l.rest ≤ length l.history;
  found : PairFrom l.history l.end l.from l.to l.rest l.first;
}

abbrev pub decreases-loop-rest : goal.decreases-loop-rest
decreases-loop-rest l = l.rest
