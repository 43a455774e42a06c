use Rattle.std.proofs.Common.{◌++◌, ◌∷◌, [], sym, ap, ◌∙◌, arith}
use Rattle.std.proofs.lemmas.Option.{slice_get_within}
use Rattle.sgt_appends.specs.declared.transaction.Operation.TheVariants.{Read}
use Rattle.sgt_appends.specs.Precedences.{appended}
use Rattle.sgt_levels.specs.Replays.{values_in}
use Rattle.sgt_levels.proofs.Grown.{one_longer}
use Rattle.sgt_levels.proofs.Replayed.{held_one}
use Rattle.sgt_levels.proofs.replay.reads_hold.Goals as goal

pub loop-operation-preserved : goal.loop-operation-preserved
loop-operation-preserved c = record {
  own = λ k. c.in_ok-add.ensures.values k
      ∙ ap (λ l. l ++ appended k (c.operation-item.result ∷ [])) (c.loop-operation.invariant.own k)
      ∙ sym (one_longer c.args.operations.now c.loop-operation.operation-index c.operation-item.result k c.loop-operation-test.true
      c.operation-item.is);
  held = held_one c.args.history.now c.args.order.now c.args.place c.args.start c.args.operations.now c.loop-operation.operation-index
      c.operation-item.result (values_in c.loop-operation.own) c.operation-item.is c.loop-operation.invariant.own
      (c.holds.ensures c.if-not-holds.false) c.loop-operation.invariant.held;
}

pub returns : goal.returns
returns c = λ yes p k values at.
    c.loop-operation.invariant.held p k values
    (omega (arith, slice_get_within c.args.operations.now p (Read k values) at, c.loop-operation-test.false)) at
