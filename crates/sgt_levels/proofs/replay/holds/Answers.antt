use Rattle.std.proofs.Common.{◌≡◌, ◌++◌, [], refl, sym, ap, ◌∙◌, subst, append-nil}
use Rattle.sgt_levels.specs.Replays.{values_in, places_in, IsFront, SeenFrom, OperationHolds}
use Rattle.sgt_levels.proofs.Replayed.{holds_after, start_before}
use Rattle.sgt_levels.proofs.replay.holds.Goals as goal

pub returns-in-Some : goal.returns-in-Some
returns-in-Some c = λ yes.
    let it = c.sees_after.ensures yes in
    let own : c.as_slice.result.now ≡ values_in c.args.own.now c.in-Read.key =
    c.as_slice.ensures.value ∙ sym (c.in-Some.ensures.some.0) in
    subst (λ o. OperationHolds c.args.history.now c.args.order.now c.args.place c.args.start (values_in c.args.own.now) o) (sym c.in-Read.is)
    (holds_after c.args.history.now c.args.order.now c.args.place c.args.start c.last_start-from.result c.in-Read.key
    (values_in c.args.columns.now) (places_in c.args.columns.now) (values_in c.args.own.now c.in-Read.key) c.in-Read.values.items
    c.requires.replayed c.last_start-from.ensures.early (c.last_start-from.ensures.start (values_in c.args.own.now c.in-Read.key))
    (it.0, sym c.as_slice-in-Some.ensures.value ∙ it.1 ∙ ap (λ l. it.0 ++ l) own, it.2))

pub returns-in-None : goal.returns-in-None
returns-in-None c = λ yes.
    let nothing : values_in c.args.own.now c.in-Read.key ≡ [] = (c.in-None.ensures.none refl).0 in
    subst (λ o. OperationHolds c.args.history.now c.args.order.now c.args.place c.args.start (values_in c.args.own.now) o) (sym c.in-Read.is)
    (subst (λ l. SeenFrom c.args.history.now c.args.order.now c.args.place c.args.start c.in-Read.key l c.in-Read.values.items) (sym nothing)
    (holds_after c.args.history.now c.args.order.now c.args.place c.args.start c.start_of-from.result c.in-Read.key
    (values_in c.args.columns.now) (places_in c.args.columns.now) [] c.in-Read.values.items
    c.requires.replayed c.start_of-from.ensures.early (start_before c.args.start c.args.place c.start_of-from.result c.start_of-from.ensures.start) (
      c.in-Read.values.items,
      sym (append-nil c.in-Read.values.items),
      subst (λ l. IsFront (values_in c.args.columns.now c.in-Read.key) (places_in c.args.columns.now c.in-Read.key) l c.start_of-from.result)
          c.as_slice-in-None.ensures.value (c.stood.ensures yes),
    )))
