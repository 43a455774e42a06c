use Rattle.std.proofs.Common.{length, sym, ◌∙◌, subst}
use Rattle.sgt_appends.specs.Turns.{MakeEdges, IsLoopBelow}
use Rattle.sgt_appends.proofs.Loops.{turned_below}
use Rattle.sgt_appends.proofs.edges.edges_of.Goals as goal

pub edges_along-requires-2-clause-round : goal.edges_along-requires-2-clause-round
edges_along-requires-2-clause-round c =
    subst (λ ls. IsLoopBelow (length c.args.history.now) ls) (sym (c.as_slice.ensures.value ∙ c.in_ok-turned.ensures))
    (turned_below c.args.history.now c.args.cycle.now _ c.requires.round c.requires.edges c.if-cycle-history.false).0

pub edges_along-requires-2-clause-edges : goal.edges_along-requires-2-clause-edges
edges_along-requires-2-clause-edges c =
    subst (λ ls. MakeEdges c.args.history.now ls) (sym (c.as_slice.ensures.value ∙ c.in_ok-turned.ensures))
    (turned_below c.args.history.now c.args.cycle.now _ c.requires.round c.requires.edges c.if-cycle-history.false).1
