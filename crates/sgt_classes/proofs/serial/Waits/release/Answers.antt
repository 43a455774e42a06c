use Rattle.std.proofs.Common.{rules, ◌≡◌, ◌∙◌, ◌<◌, ℕ, Option, Some, sym, ap, subst}
use Rattle.std.specs.Prelude.{slice_get, length}
use Rattle.std.proofs.lemmas.Option.{slice_get-get_or, slice_get_within}
use Rattle.sgt_classes.specs.declared.graph.Edge.{Edge}
use Rattle.sgt_classes.specs.declared.chains.EdgeEnd.TheVariants.{From}
use Rattle.sgt_classes.specs.Links.{link_of}
use Rattle.sgt_classes.specs.Seen.{height}
use Rattle.sgt_classes.specs.Sorting.{IsLastEdge, AllWaitBut}
use Rattle.sgt_classes.proofs.EdgeChains.{same_at, edge_lower}
use Rattle.sgt_classes.proofs.Waiting.{ready_still, watched_still, wait_below, wait_lower, last_from}
use Rattle.sgt_classes.proofs.serial.Waits.release.Goals as goal

pub loop-next-init : goal.loop-next-init
loop-next-init c =
    let ws = c.args.self.now.watched.edges.items in
    let t = c.args.transaction in
    let last = subst (λ o. IsLastEdge From ws (length ws) t o) (sym c.last_edge-next.ensures) (c.requires.waits.watched_are.tops_are t) in
    record {
      waits = c.requires.waits;
      ready = c.requires.ready;
      watched = c.requires.watched;
      wait = wait_lower c.args.self.now t (length ws) c.last_edge-next.result last c.requires.wait;
      edges = search rules;
      left = search rules;
      next = last_from ws (length ws) t c.last_edge-next.result last;
    }

-- the edge that is passed
at : (c : goal.After-edge_before-next) → slice_get c.loop-next.self.watched.edges.items c.in-Some.edge ≡ Some c.index.result.now
at c =
    let out = c.loop-next.invariant.next c.in-Some.edge c.in-Some.is in
    let ws = c.loop-next.self.watched.edges.items in
    slice_get-get_or ws c.in-Some.edge c.index.result.now (slice_get_within ws c.in-Some.edge out.0 out.1)
    ∙ ap Some (sym c.index.ensures)

-- it leads from the transaction
from : (c : goal.After-edge_before-next) → c.index.result.now.from ≡ c.args.transaction
from c =
    let out = c.loop-next.invariant.next c.in-Some.edge c.in-Some.is in
    ap (λ (e : Edge). e.from)
    (same_at c.loop-next.self.watched.edges.items c.in-Some.edge c.index.result.now out.0 (at c) out.1) ∙ out.2

-- the next one is the last before it
last : (c : goal.After-edge_before-next)
    → IsLastEdge From c.update.new.self.watched.edges.items c.in-Some.edge c.args.transaction c.edge_before-next.result
last c =
    let ws = c.update.new.self.watched.edges.items in
    let o : Option ℕ = link_of c.update.new.self.watched.outgoing.below c.in-Some.edge in
    let still = c.in_ok-update.ensures.kept c.in-Some.edge c.index.result.now (at c) in
    subst (λ o. IsLastEdge From ws c.in-Some.edge c.args.transaction o) (sym c.edge_before-next.ensures)
    (subst (λ t. IsLastEdge From ws c.in-Some.edge t o) (from c)
    (c.in_ok-update.ensures.waits.watched_are.below_are c.in-Some.edge c.index.result.now
    (slice_get_within ws c.in-Some.edge c.index.result.now still) still))

pub loop-next-preserved : goal.loop-next-preserved
loop-next-preserved c =
    let old = c.loop-next.self in
    let new = c.update.new.self in
    let to = c.index.result.now.to in
    let found = c.in_ok-update.ensures in record {
      waits = found.waits;
      ready = λ u. ready_still old new to u found.left found.others found.others_ready (c.loop-next.invariant.ready u) found.ready;
      watched = λ u. watched_still old new to u found.edges found.others found.kept (c.loop-next.invariant.watched u) found.watched;
      wait = wait_lower new c.args.transaction c.in-Some.edge c.edge_before-next.result (last c)
          (wait_below old new c.args.transaction c.in-Some.edge c.index.result.now found.edges found.left found.others
          c.loop-next.invariant.waits found.kept (at c) found.wait
          (subst (λ o. AllWaitBut old c.args.transaction (height o)) c.in-Some.is c.loop-next.invariant.wait));
      edges = found.edges ∙ c.loop-next.invariant.edges;
      left = found.left ∙ c.loop-next.invariant.left;
      next = last_from new.watched.edges.items c.in-Some.edge c.args.transaction c.edge_before-next.result (last c);
    }

pub loop-next-smaller : goal.loop-next-smaller
loop-next-smaller c = subst (λ o. height c.edge_before-next.result < height o) (sym c.in-Some.is)
    (edge_lower From c.update.new.self.watched.edges.items c.in-Some.edge c.args.transaction c.edge_before-next.result (last c))
