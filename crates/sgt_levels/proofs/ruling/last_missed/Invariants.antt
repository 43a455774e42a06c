use Rattle.std.proofs.Common.{◌≡◌, false, drop}
use Rattle.sgt_levels.specs.Rounds.{ends_with_miss}
use Rattle.sgt_levels.proofs.ruling.last_missed.Given as goal

abbrev pub invariant-loop-edge : goal.invariant-loop-edge
invariant-loop-edge l = ends_with_miss l.before (drop l.edge-index l.edges) ≡ ends_with_miss false l.edges
