use Rattle.sgt_classes.proofs.graph.ProjectionGraph.of_projection.Goals as goal

pub connect_all-requires-clause-uses : goal.connect_all-requires-clause-uses
connect_all-requires-clause-uses c = c.new-seen.ensures _
