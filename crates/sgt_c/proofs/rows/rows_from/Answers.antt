use Rattle.std.proofs.Common.{◌≡◌, true, false, arith, refl, ◌∙◌, sym, subst, ◌≤◌}
use Rattle.sgt_model.specs.Databases.{IsRowIndex, Row, key_lt}
use Rattle.sgt_model.proofs.Rows.{key_lt-derived, read_at, low_moves, high_moves, index_from}
use Rattle.sgt_c.proofs.RowSteps.{from_index}
use Rattle.sgt_c.proofs.rows.rows_from.Goals as goal

pub loop-low-preserved-then-lt : goal.loop-low-preserved-then-lt
loop-low-preserved-then-lt c = record {
  ordered = omega arith;
  within = c.loop-low.invariant.within;
  below = low_moves c.args.rows.now _ c.index-rows-middle.result c.args.key c.requires
      (read_at c.args.rows.now c.args.rows.now _ c.index-rows-middle.result refl (omega arith) c.index-rows-middle.is)
      (subst (λ (r : Row). key_lt r.0 c.args.key ≡ true) (sym c.index-rows-middle.is)
      (sym (key_lt-derived _ c.args.key) ∙ (sym c.lt.ensures ∙ c.if-lt.true)));
  above = c.loop-low.invariant.above;
}

pub loop-low-preserved : goal.loop-low-preserved
loop-low-preserved c = record {
  ordered = omega arith;
  within = omega arith;
  below = c.loop-low.invariant.below;
  above = high_moves c.args.rows.now _ c.index-rows-middle.result c.args.key c.requires
      (read_at c.args.rows.now c.args.rows.now _ c.index-rows-middle.result refl (omega arith) c.index-rows-middle.is)
      (subst (λ (r : Row). key_lt r.0 c.args.key ≡ false) (sym c.index-rows-middle.is)
      (sym (key_lt-derived _ c.args.key) ∙ (sym c.lt.ensures ∙ c.if-lt.false)));
}

pub returns : goal.returns
returns c =
    let low : c.loop-low.low ≤ c.loop-low.high = c.loop-low.invariant.ordered in
    let met : c.loop-low.high ≤ c.loop-low.low = omega arith in
    let at : IsRowIndex c.args.key c.args.rows.now c.loop-low.low = index_from c.args.key c.args.rows.now c.loop-low.low (omega arith)
    c.loop-low.invariant.below (λ i r h. c.loop-low.invariant.above i r (omega arith)) in
    from_index c.args.key c.args.rows.now c.loop-low.low at
