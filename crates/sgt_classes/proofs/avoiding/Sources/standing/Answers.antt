use Rattle.std.proofs.Common.{rules, ℕ, ◌<◌, Some, sym, subst, arith}
use Rattle.std.specs.Prelude.{length}
use Rattle.sgt_classes.specs.Histories.{AbortedBefore}
use Rattle.sgt_classes.specs.Seen.{IsTopWrite, height}
use Rattle.sgt_classes.proofs.Places.{there}
use Rattle.sgt_classes.proofs.Sources.{writer_is, top_below, top_write, height_below}
use Rattle.sgt_classes.proofs.avoiding.Sources.standing.Goals as goal

pub loop-top-init : goal.loop-top-init
loop-top-init c = subst (λ o. IsTopWrite c.args.history.now c.args.place c.args.item o)
    (sym c.find-top.ensures) (c.requires.sources.tops_are c.args.item)

pub offset_bounds-history-write : goal.offset_bounds-history-write
offset_bounds-history-write c =
    let top : IsTopWrite c.args.history.now c.args.place c.args.item (Some c.in-Some.write) =
    subst (λ o. IsTopWrite c.args.history.now c.args.place c.args.item o) c.in-Some.is c.loop-top.invariant in
    let less : c.in-Some.write < length c.args.history.now = omega (arith, top.0, c.requires.within) in search rules

pub bounds-history-write : goal.bounds-history-write
bounds-history-write c =
    let top : IsTopWrite c.args.history.now c.args.place c.args.item (Some c.in-Some.write) =
    subst (λ o. IsTopWrite c.args.history.now c.args.place c.args.item o) c.in-Some.is c.loop-top.invariant in
    omega (arith, top.0, c.requires.within)

pub returns-then-not-contains_key-clause-standing : goal.returns-then-not-contains_key-clause-standing
returns-then-not-contains_key-clause-standing c =
    let h = c.args.history.now in
    let i : ℕ = c.in-Some.write in
    let top : IsTopWrite h c.args.place c.args.item (Some i) =
    subst (λ o. IsTopWrite h c.args.place c.args.item o) c.in-Some.is c.loop-top.invariant in
    λ t does aborted. let key = (c.requires.sources.aborts_are _).1 (subst (λ u. AbortedBefore h u c.args.place)
    (sym (writer_is h i t c.args.item _ (there h i (omega (arith, top.0, c.requires.within))) does)) aborted) in search rules

lower : (c : goal.After-get-top) → IsTopWrite c.args.history.now c.in-Some.write c.args.item c.get-top.result
lower c =
    let h = c.args.history.now in
    let i : ℕ = c.in-Some.write in
    let top : IsTopWrite h c.args.place c.args.item (Some i) =
    subst (λ o. IsTopWrite h c.args.place c.args.item o) c.in-Some.is c.loop-top.invariant in
    subst (λ o. IsTopWrite h i c.args.item o) (sym c.get-top.ensures)
    (c.requires.sources.below_are i top.1.0 c.args.item top.0 top.1.1)

pub loop-top-preserved : goal.loop-top-preserved
loop-top-preserved c =
    let h = c.args.history.now in
    let i : ℕ = c.in-Some.write in
    let top : IsTopWrite h c.args.place c.args.item (Some i) =
    subst (λ o. IsTopWrite h c.args.place c.args.item o) c.in-Some.is c.loop-top.invariant in
    let does = top_write h c.args.place c.args.item i _ (there h i (omega (arith, top.0, c.requires.within))) top in
    top_below h c.args.place c.args.item i _ c.get-top.result top does
    ((c.requires.sources.aborts_are _).0 (search rules)) (lower c)

pub loop-top-smaller : goal.loop-top-smaller
loop-top-smaller c = subst (λ o. height c.get-top.result < height o) (sym c.in-Some.is)
    (height_below c.args.history.now c.in-Some.write c.args.item c.get-top.result (lower c))
