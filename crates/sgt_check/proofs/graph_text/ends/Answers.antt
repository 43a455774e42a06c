use Rattle.std.proofs.Common.{◌||◌, ◌&&◌, ◌==◌, ap, sym, ◌∙◌}
use Rattle.std.specs.Prelude.{slice_index_or}
use Rattle.sgt_classes.specs.declared.graph.Edge.{Edge}
use Rattle.sgt_check.proofs.Graphs.{leads_one}
use Rattle.sgt_check.proofs.graph_text.ends.Goals as goal

pub loop-edge-preserved : goal.loop-edge-preserved
loop-edge-preserved c t u =
    let edges = c.args.edges.now in
    let p = c.loop-edge.edge-index in
    let d : Edge = record { from = 0; to = 0; earlier = 0; later = 0 } in
    c.in_ok-note_ends.ensures t u
    ∙ ap (λ b. b || ((slice_index_or edges p d).from == t && (slice_index_or edges p d).to == u)) (c.loop-edge.invariant t u)
    ∙ sym (leads_one edges p d t u c.loop-edge-test.true)
