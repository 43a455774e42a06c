use Rattle.std.proofs.Common.{◌≡◌, ◌++◌, ◌∙◌, ℕ, Some, get_or, sym, ap, arith}
use Rattle.std.specs.Prelude.{slice_get}
use Rattle.std.proofs.lemmas.Grind.{common_steps}
use Rattle.std.proofs.lemmas.Option.{gets}
use Rattle.sgt_appends.specs.Runs.{operations_or_none, operations_of}
use Rattle.sgt_appends.specs.Precedences.{appended}
use Rattle.sgt_appends.specs.Guides.{appended_by}
use Rattle.sgt_levels.specs.Replays.{values_in}
use Rattle.sgt_levels.proofs.WriteOrders.{left_one, whole_front}
use Rattle.sgt_levels.proofs.writes.lists_of.Goals as goal

pub loop-place-preserved : goal.loop-place-preserved
loop-place-preserved c = λ k.
    let t : ℕ = get_or c.args.order.now c.loop-place.place 0 in
    let there : slice_get c.args.history.now t ≡ Some c.in-Some.transaction.now =
    grind (arith, common_steps, gets, c.in-Some.ensures.lookup) in
    let are : c.as_slice-operations.result.now ≡ operations_of c.args.history.now t =
    c.as_slice-operations.ensures.value ∙ sym (ap operations_or_none there) in
    left_one c.args.history.now c.args.order.now c.loop-place.place k (values_in c.loop-place.lists k) (values_in c.add_all.new.self k)
    c.loop-place-test.true (c.loop-place.invariant k)
    (c.in_ok-add_all.ensures.values k ∙ ap (λ os. values_in c.loop-place.lists k ++ appended k os) are)

pub returns : goal.returns
returns c = λ k.
    c.loop-place.invariant k
    ∙ ap (appended_by c.args.history.now k) (whole_front c.args.order.now c.loop-place.place (grind (arith, c.loop-place-test.false)))
