use Rattle.std.proofs.Common.{rules, ◌≡◌, ℕ, Some, sym, subst}
use Rattle.std.specs.Prelude.{slice_index_or}
use Rattle.sgt_classes.specs.Tables.{entry_of}
use Rattle.std.proofs.lemmas.Option.{slice_get-get_or, slice_get_within}
use Rattle.sgt_classes.specs.declared.graph.Edge.{Edge}
use Rattle.sgt_classes.proofs.ClosedPaths.{GoesBack, goes_back}
use Rattle.sgt_classes.proofs.cycles.path_back.Goals as goal

pub loop-place-preserved : goal.loop-place-preserved
loop-place-preserved c =
    let es = c.args.edges.now in
    let k : ℕ = c.in-Some.place in
    let t : ℕ = c.loop-place.transaction in
    let e : Edge = slice_index_or es k (record { from = 0; to = 0; earlier = 0; later = 0 }) in
    let inv = c.loop-place.invariant in
    let is : entry_of c.loop-place.incoming.tops t ≡ Some k = search rules in
    let chosen = c.requires.back t k (inv.same t k is) in
    let at = slice_get-get_or es k _ (slice_get_within es k chosen.0 chosen.1) in
    subst (λ l. GoesBack es l (entry_of c.args.incoming.now.tops) (entry_of c.take.new.self.tops) e.from) (sym c.in_ok-push.ensures.items)
    (goes_back es c.loop-place.path.items _ _ _ t k e c.requires.back inv is at c.in-Some.ensures.at c.in-Some.ensures.others)
