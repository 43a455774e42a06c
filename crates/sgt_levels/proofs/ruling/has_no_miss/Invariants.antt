use Rattle.std.proofs.Common.{drop}
use Rattle.sgt_levels.specs.Rounds.{HasNoMiss}
use Rattle.sgt_levels.proofs.ruling.has_no_miss.Given as goal

abbrev pub invariant-loop-edge : goal.invariant-loop-edge
invariant-loop-edge l = record {
  up : HasNoMiss (drop l.edge-index l.edges) → HasNoMiss l.edges;
  down : HasNoMiss l.edges → HasNoMiss (drop l.edge-index l.edges);
}
