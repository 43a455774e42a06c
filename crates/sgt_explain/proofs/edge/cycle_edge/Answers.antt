use Rattle.std.proofs.Common.{rules, ◌≡◌, IsSome, IfSome, sym, subst, ◌∙◌}
use Rattle.sgt_explain.specs.Places.{placed_cycle}
use Rattle.sgt_explain.specs.CycleEdges.{ReportsEdge, HasEdge}
use Rattle.sgt_explain.proofs.LegalCycles.{edges_are_there, reported_are_pairs}
use Rattle.sgt_explain.proofs.edge.cycle_edge.Goals as goal

pub returns-clause-all : goal.returns-clause-all
returns-clause-all c =
    let same : c.as_slice.result.now ≡ placed_cycle c.args.history.now c.args.place =
    c.as_slice.ensures ∙ c.in_ok-cycle.ensures.some in
    λ s legal about below.
    c.path_edge.ensures.some.1
    (subst (λ w. HasEdge c.args.history.now c.args.place c.args.pending.now.key c.args.pending.now.kind w c.args.number) (sym same)
    (edges_are_there s c.args.history.now c.args.place c.args.number c.args.pending.now.key c.args.pending.now.kind (search rules)
    legal about below))

pub returns-clause-pairs : goal.returns-clause-pairs
returns-clause-pairs c =
    let same : c.as_slice.result.now ≡ placed_cycle c.args.history.now c.args.place =
    c.as_slice.ensures ∙ c.in_ok-cycle.ensures.some in
    reported_are_pairs c.args.history.now c.args.place c.args.number c.args.pending.now (search rules) c.path_edge.result
    (subst (λ w. IfSome c.path_edge.result (ReportsEdge c.args.history.now c.args.place c.args.pending.now w c.args.number)) same
    c.path_edge.ensures.reported)
    (subst (λ w. IsSome c.path_edge.result
    → HasEdge c.args.history.now c.args.place c.args.pending.now.key c.args.pending.now.kind w c.args.number) same
    c.path_edge.ensures.some.0)
