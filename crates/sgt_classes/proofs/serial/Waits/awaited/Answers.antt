use Rattle.std.proofs.Common.{rules, ◌≡◌, Some, ap, sym, subst, ◌∙◌, arith}
use Rattle.std.specs.Prelude.{slice_get}
use Rattle.sgt_classes.specs.Tables.{entry_of}
use Rattle.std.proofs.lemmas.Grind.{common_steps}
use Rattle.std.proofs.lemmas.Option.{slice_get-get_or, slice_get_within}
use Rattle.sgt_classes.specs.declared.graph.Edge.{Edge}
use Rattle.sgt_classes.specs.declared.chains.EdgeEnd.TheVariants.{To}
use Rattle.sgt_classes.specs.Links.{link_of}
use Rattle.sgt_classes.specs.Sorting.{IsLastEdge, IsTopEdge}
use Rattle.sgt_classes.proofs.EdgeChains.{same_at}
use Rattle.sgt_classes.proofs.Waiting.{below_passed}
use Rattle.sgt_classes.proofs.serial.Waits.awaited.Goals as goal

pub loop-top-preserved : goal.loop-top-preserved
loop-top-preserved c =
    let es = c.args.self.now.edges.items in
    let left = entry_of c.args.self.now.left in
    let u = c.args.transaction in
    let i = c.in-Some.edge in
    let e : Edge = c.index.result.now in
    let top : IsTopEdge es left u (Some i) = subst (λ o. IsTopEdge es left u o) c.in-Some.is c.loop-top.invariant.top in
    let at : slice_get es i ≡ Some e = slice_get-get_or es i e (slice_get_within es i top.0.0 top.0.1) ∙ ap Some (sym c.index.ensures) in
    let to = ap (λ (f : Edge). f.to) (same_at es i e top.0.0 at top.0.1) ∙ top.0.2 in
    let lower = subst (λ t. IsLastEdge To es i t (link_of c.args.self.now.incoming.below i)) to (c.requires.below_are i e at) in record {
      top = below_passed es left u i e c.edge_before-top.result at (search rules) top
          (subst (λ o. IsLastEdge To es i u o) (sym c.edge_before-top.ensures) lower);
      stays = λ none. absurd (grind (arith, common_steps, c.loop-top.invariant.stays none, c.in-Some.is));
    }
