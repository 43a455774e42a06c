use Rattle.std.proofs.Common.{drop}
use Rattle.sgt_levels.specs.Rounds.{AreSpaced}
use Rattle.sgt_levels.proofs.ruling.are_spaced.Given as goal

abbrev pub invariant-loop-edge : goal.invariant-loop-edge
invariant-loop-edge l = record {
  up : AreSpaced l.before (drop l.edge-index l.edges) → AreSpaced l.first l.edges;
  down : AreSpaced l.first l.edges → AreSpaced l.before (drop l.edge-index l.edges);
}
