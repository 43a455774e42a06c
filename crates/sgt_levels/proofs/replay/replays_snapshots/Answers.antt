use Rattle.std.proofs.Common.{◌≡◌, ◌≤◌, ◌++◌, ℕ, Some, get_or, map, sym, ap, ◌∙◌, subst, arith}
use Rattle.std.specs.Prelude.{slice_get}
use Rattle.std.proofs.lemmas.Grind.{common_steps}
use Rattle.std.proofs.lemmas.Option.{gets, get_or_from_slice_get}
use Rattle.sgt_appends.specs.Runs.{operations_or_none, operations_of}
use Rattle.sgt_appends.specs.Precedences.{appended}
use Rattle.sgt_levels.specs.Replays.{values_in, places_in, IsSnapshotHeld}
use Rattle.sgt_levels.proofs.Replayed.{replayed_one, each_more, snapshot_held}
use Rattle.sgt_levels.proofs.replay.replays_snapshots.Goals as goal

pub loop-place-preserved : goal.loop-place-preserved
loop-place-preserved c =
    let t : ℕ = get_or c.args.order.now c.loop-place.place 0 in
    let there : slice_get c.args.history.now t ≡ Some c.in-Some.transaction.now =
    grind (arith, common_steps, gets, c.in-Some.ensures.lookup) in
    let are : c.as_slice-operations.result.now ≡ operations_of c.args.history.now t =
    c.as_slice-operations.ensures.value ∙ sym (ap operations_or_none there) in
    let start : get_or c.args.starts.now c.loop-place.place 0 ≡ c.in-Some-get.start.now =
    get_or_from_slice_get c.args.starts.now c.loop-place.place c.in-Some-get.start.now 0
    (grind (arith, common_steps, gets, c.in-Some-get.ensures.lookup)) in
    let early : c.in-Some-get.start.now ≤ c.loop-place.place = grind (arith, common_steps, c.if-start-place.false) in
    record {
      replayed = replayed_one c.args.history.now c.args.order.now c.loop-place.place (values_in c.loop-place.columns)
          (places_in c.loop-place.columns) (values_in c.add_all.new.self) (places_in c.add_all.new.self) c.loop-place.invariant.replayed
          c.loop-place-test.true
          (λ k. c.in_ok-add_all.ensures.values k ∙ ap (λ os. values_in c.loop-place.columns k ++ appended k os) are)
          (λ k. c.in_ok-add_all.ensures.places k
          ∙ ap (λ os. places_in c.loop-place.columns k ++ map (λ v. c.loop-place.place) (appended k os)) are);
      held = each_more (λ i. IsSnapshotHeld c.args.history.now c.args.order.now i (get_or c.args.starts.now i 0)) c.loop-place.place
          c.loop-place.invariant.held
          (subst (λ s. IsSnapshotHeld c.args.history.now c.args.order.now c.loop-place.place s) (sym start)
          (snapshot_held c.args.history.now c.args.order.now c.loop-place.place c.in-Some-get.start.now c.as_slice-operations.result.now
          (values_in c.loop-place.columns) (places_in c.loop-place.columns) c.loop-place.invariant.replayed are early
          (c.in_ok-reads_hold.ensures c.if-not-branch.false) (c.are_free.ensures c.if-not-are_free.false)));
    }
