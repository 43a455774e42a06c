use Rattle.std.proofs.Common.{rules, arith}
use Rattle.sgt_classes.proofs.Edges.{conflicts_next}
use Rattle.sgt_classes.proofs.graph.ProjectionGraph.connect_all.Goals as goal

pub loop-place-init : goal.loop-place-init
loop-place-init c = record {
  graph = λ k e at. search rules;
  conflicts = λ i t j u x less next. absurd (omega (arith, less));
  uses = c.requires.uses;
}

pub loop-place-preserved : goal.loop-place-preserved
loop-place-preserved c = record {
  graph = c.in_ok-connect_reads.ensures.graph;
  conflicts = conflicts_next _ _ _ c.loop-place.place c.loop-place.invariant.conflicts
      (λ t u has. c.in_ok-connect_reads.ensures.kept t u (c.in_ok-connect_write.ensures.kept t u has))
      (λ i t u x next wrote. c.in_ok-connect_reads.ensures.kept t u (c.in_ok-connect_write.ensures.conflicts i t u x next wrote))
      c.in_ok-connect_reads.ensures.conflicts;
  uses = c.in_ok-record.ensures;
}

pub returns-clause-conflicts : goal.returns-clause-conflicts
returns-clause-conflicts c i t j u x less = c.loop-place.invariant.conflicts i t j u x (omega (arith, less, c.loop-place-test.false))
