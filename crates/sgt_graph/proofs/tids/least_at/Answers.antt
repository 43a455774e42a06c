use Rattle.std.proofs.Common.{◌≡◌, ◌∙◌, ℕ, not, true, Some, ap, refl, sym, subst, arith, slice_index, nat_eq}
use Rattle.std.specs.Prelude.{◌&&◌}
use Rattle.sgt_cycle.specs.Indices.{is_set}
use Rattle.sgt_graph.proofs.RowSteps.{was_left}
use Rattle.sgt_graph.proofs.LeastIndices.{LeastPassed, least_first, least_more, least_some, least_none, any_default}
use Rattle.sgt_graph.proofs.tids.least_at.Goals as goal

pub loop-index-init : goal.loop-index-init
loop-index-init c = record { within = λ i h. h; least = least_first c.args.tids.now c.args.set }

pub loop-index-preserved : goal.loop-index-preserved
loop-index-preserved c =
    let k : ℕ = c.in-Some.index in
    let less : (i : ℕ) → is_set c.minus-left.result i ≡ (is_set c.loop-index.left i && not (nat_eq i k)) =
    λ i. c.minus-left.ensures.indices i ∙ ap (λ x. is_set c.loop-index.left i && not x) (c.only.ensures i) in
    record {
      within = λ i h. c.loop-index.invariant.within i (was_left c.loop-index.left c.minus-left.result k less i h);
      least = subst (λ x. LeastPassed c.args.tids.now c.args.set c.minus-left.result (Some x)) (sym c.smaller.ensures)
          (least_more c.args.tids.now c.args.set c.loop-index.left c.minus-left.result k _
          (c.loop-index.invariant.within k c.in-Some.ensures.some.1) less
          (ap (λ i. slice_index c.args.tids.now i) (sym c.from.ensures)
          ∙ any_default c.args.tids.now c.from.result c.index-tids-from.result (omega (arith, c.told-tids, c.from.ensures, c.in-Some.ensures.some.0)))
          c.loop-index.found c.loop-index.invariant.least);
    }

pub returns-clause-some : goal.returns-clause-some
returns-clause-some c = least_some c.args.tids.now c.args.set c.loop-index.left (c.in_default.ensures.none refl) c.loop-index.found
    c.loop-index.invariant.least

pub returns-clause-none : goal.returns-clause-none
returns-clause-none c = least_none c.args.tids.now c.args.set c.loop-index.left (c.in_default.ensures.none refl) c.loop-index.found
    c.loop-index.invariant.least
