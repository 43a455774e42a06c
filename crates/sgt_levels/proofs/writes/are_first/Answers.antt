use Rattle.std.proofs.Common.{rules, get_or, refl}
use Rattle.sgt_levels.proofs.WriteOrders.{kept_step, kept_all}
use Rattle.sgt_levels.proofs.writes.are_first.Goals as goal

pub loop-value-preserved : goal.loop-value-preserved
loop-value-preserved c = record {
  within = search rules;
  kept = kept_step c.args.history.now c.args.key c.args.seen.now c.args.list.now c.loop-value.value-index c.loop-value.at c.in-Some.next
      (get_or c.args.seen.now c.loop-value.value-index 0) c.loop-value-test.true refl (search rules) c.loop-value.invariant.kept;
}

pub returns : goal.returns
returns c = λ yes.
    kept_all c.args.history.now c.args.key c.args.seen.now c.args.list.now c.loop-value.value-index c.loop-value.at (search rules)
    c.loop-value.invariant.kept
