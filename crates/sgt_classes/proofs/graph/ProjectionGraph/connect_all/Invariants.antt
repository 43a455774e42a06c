use Rattle.sgt_classes.specs.Seen.{KnowsAccesses, IsGraph, HasConflicts}
use Rattle.sgt_classes.proofs.graph.ProjectionGraph.connect_all.Given as goal

abbrev pub invariant-loop-place : goal.invariant-loop-place
invariant-loop-place l = record {
  graph : IsGraph l.operations l.self;
  conflicts : HasConflicts l.operations l.self.edges.items l.place;
  uses : KnowsAccesses l.operations l.place l.seen;
}
