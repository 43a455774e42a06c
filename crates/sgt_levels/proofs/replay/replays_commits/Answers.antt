use Rattle.std.proofs.Common.{◌≡◌, ◌++◌, ℕ, Some, None, get_or, map, sym, ap, ◌∙◌, subst, arith}
use Rattle.std.specs.Prelude.{slice_get}
use Rattle.std.proofs.lemmas.Grind.{common_steps}
use Rattle.std.proofs.lemmas.Option.{gets}
use Rattle.sgt_appends.specs.Runs.{operations_or_none, operations_of}
use Rattle.sgt_appends.specs.Precedences.{appended}
use Rattle.sgt_levels.specs.Replays.{values_in, places_in, HoldOver, AreHeld}
use Rattle.sgt_levels.proofs.Replayed.{replayed_one, each_more}
use Rattle.sgt_levels.proofs.replay.replays_commits.Goals as goal

pub loop-place-preserved : goal.loop-place-preserved
loop-place-preserved c =
    let t : ℕ = get_or c.args.order.now c.loop-place.place 0 in
    let there : slice_get c.args.history.now t ≡ Some c.in-Some.transaction.now =
    grind (arith, common_steps, gets, c.in-Some.ensures.lookup) in
    let are : c.as_slice-operations.result.now ≡ operations_of c.args.history.now t =
    c.as_slice-operations.ensures.value ∙ sym (ap operations_or_none there) in
    record {
      replayed = replayed_one c.args.history.now c.args.order.now c.loop-place.place (values_in c.loop-place.columns)
          (places_in c.loop-place.columns) (values_in c.add_all.new.self) (places_in c.add_all.new.self) c.loop-place.invariant.replayed
          c.loop-place-test.true
          (λ k. c.in_ok-add_all.ensures.values k ∙ ap (λ os. values_in c.loop-place.columns k ++ appended k os) are)
          (λ k. c.in_ok-add_all.ensures.places k
          ∙ ap (λ os. places_in c.loop-place.columns k ++ map (λ v. c.loop-place.place) (appended k os)) are);
      held = each_more (λ i. AreHeld c.args.history.now c.args.order.now i) c.loop-place.place c.loop-place.invariant.held
          (subst (λ os. HoldOver c.args.history.now c.args.order.now c.loop-place.place None os) are
          (c.in_ok-reads_hold.ensures c.if-not-branch.false));
    }
