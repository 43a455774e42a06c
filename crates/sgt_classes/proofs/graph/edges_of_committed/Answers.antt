use Rattle.std.proofs.Common.{◌≡◌, subst}
use Rattle.std.specs.Prelude.{length}
use Rattle.sgt_classes.specs.Seen.{IsConflictBy, HasConflicts}
use Rattle.sgt_classes.proofs.Projection.{edge_by, rises_all}
use Rattle.sgt_classes.proofs.graph.edges_of_committed.Goals as goal

pub returns : goal.returns
returns c =
    let h = c.args.history.now in
    let q = c.in_ok-projection.projection.items in
    let es = c.in_ok-graph.graph.edges.items in
    let same : c.as_slice.result.now ≡ q = c.as_slice.ensures.value in
    let is = c.in_ok-projection.ensures.projection in record {
      are_edges = λ k e at. edge_by h q e is
          (subst (λ l. IsConflictBy l e) same (c.in_ok-graph.ensures.graph k e at));
      are_enough = rises_all h q es is (subst (λ l. HasConflicts l es (length l)) same c.in_ok-graph.ensures.conflicts);
    }
