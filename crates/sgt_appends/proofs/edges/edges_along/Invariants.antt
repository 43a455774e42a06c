use Rattle.sgt_appends.specs.Turns.{AreEdgesSoFar}
use Rattle.sgt_appends.proofs.edges.edges_along.Given as goal

abbrev pub invariant-loop-link : goal.invariant-loop-link
invariant-loop-link l = AreEdgesSoFar l.history l.cycle l.link-index l.edges.items l.before
