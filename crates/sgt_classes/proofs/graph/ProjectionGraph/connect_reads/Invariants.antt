use Rattle.std.proofs.Common.{ℕ}
use Rattle.sgt_classes.specs.declared.operation.Action.TheVariants.{Write}
use Rattle.sgt_classes.specs.Histories.{Does}
use Rattle.sgt_classes.specs.Seen.{IsGraph, HasEdge, AreConnectedAbove, height}
use Rattle.sgt_classes.proofs.graph.ProjectionGraph.connect_reads.Given as goal

abbrev pub invariant-loop-read : goal.invariant-loop-read
invariant-loop-read l = record {
  graph : IsGraph l.operations l.self;
  kept : (t u : ℕ) → HasEdge l.fn.self.edges.items t u → HasEdge l.self.edges.items t u;
  reads : (u x : ℕ) → Does l.operations l.place u (Write x) → AreConnectedAbove l.operations l.self.edges.items l.place x u l.read;
}

abbrev pub decreases-loop-read : goal.decreases-loop-read
decreases-loop-read l = height l.read
