use Rattle.std.proofs.Common.{rules, ◌≡◌, ℕ, Some, refl, sym, subst, arith}
use Rattle.std.specs.Prelude.{slice_get}
use Rattle.sgt_classes.specs.declared.graph.Edge.{Edge}
use Rattle.sgt_classes.specs.Seen.{IsConflictBy, HasEdge}
use Rattle.sgt_classes.proofs.Places.{done_at}
use Rattle.sgt_classes.proofs.Edges.{conflicts_pushed, edge_by, has_kept, has_edge_by}
use Rattle.sgt_classes.proofs.graph.ProjectionGraph.connect.Goals as goal

pub returns-clause-graph : goal.returns-clause-graph
returns-clause-graph c =
    let q = c.args.operations.now in
    let first = done_at q c.args.earlier _ (omega (arith, c.requires.order, c.requires.within)) refl in
    let second = done_at q c.args.later _ c.requires.within refl in
    let conflict : IsConflictBy q (edge_by q c.args.earlier c.args.later) = record {
      differ = search rules;
      order = c.requires.order;
      conflict = c.requires.conflict _ _ _ _ first second;
    } in
    subst (λ l. (k : ℕ) (e : Edge) → slice_get l k ≡ Some e → IsConflictBy q e) (sym c.in_ok-push.ensures.items)
    (conflicts_pushed q c.args.self.now.edges.items _ c.requires.graph conflict)

pub returns-clause-kept : goal.returns-clause-kept
returns-clause-kept c =
    subst (λ l. (t u : ℕ) → HasEdge c.args.self.now.edges.items t u → HasEdge l t u) (sym c.in_ok-push.ensures.items)
    (has_kept c.args.self.now.edges.items _)

pub returns-clause-connected : goal.returns-clause-connected
returns-clause-connected c t u a b does does_later apart =
    subst (λ l. HasEdge l t u) (sym c.in_ok-push.ensures.items)
    (has_edge_by c.args.operations.now c.args.self.now.edges.items _ _ c.requires.order c.requires.within t u a b does does_later)
