use Rattle.std.proofs.Common.{rules, ◌≡◌, ◌<◌, ◌+◌, ◌++◌, [], ◌∷◌, ℕ, List, Some, ◌∙◌, sym, ap, subst, arith}
use Rattle.std.specs.Prelude.{length, slice_get, slice_index_or}
use Rattle.sgt_classes.specs.Tables.{entry_of}
use Rattle.std.proofs.lemmas.Option.{slice_get_within}
use Rattle.sgt_classes.specs.declared.operation.Operation.{Operation}
use Rattle.sgt_classes.specs.declared.operation.Action.TheVariants.{Read}
use Rattle.sgt_classes.specs.Seen.{projected}
use Rattle.sgt_classes.proofs.Places.{there}
use Rattle.sgt_classes.proofs.Edges.{longer}
use Rattle.sgt_classes.proofs.Projection.{projected_pushed, projection_of}
use Rattle.sgt_classes.proofs.graph.projection_in_place.Goals as goal
use Rattle.sgt_classes.proofs.graph.projection_in_place.Goals.{then-not-contains_key, else-not-contains_key}

pub loop-place-preserved : goal.loop-place-preserved
loop-place-preserved c =
    let h = c.args.history.now in
    let q = c.loop-place.projection.items in
    let p = c.loop-place.place in
    let commits = entry_of c.args.commits.now in
    let new : Operation = c.if-not-contains_key.operation in
    let items : c.push.new.self.items ≡ q ++ new ∷ [] = c.in_ok-push.ensures.items in
    let here : Operation = slice_index_or h p (record { transaction = 0; action = Read 0 }) in
    let is : new ≡ projected commits here = elim c.if-not-contains_key.branch [
      | then-not-contains_key w ↦ search rules
      | else-not-contains_key w ↦ search rules
    ] in record {
      counted = ap (λ (l : List Operation). length l) items ∙ longer q new ∙ ap (λ n. n + 1) c.loop-place.invariant.counted;
      each = subst (λ l. (i : ℕ) (op : Operation) → i < p + 1 → slice_get h i ≡ Some op → slice_get l i ≡ Some (projected commits op))
          (sym items) (projected_pushed h q p commits here new c.loop-place.invariant.counted c.loop-place.invariant.each
          (there h p c.loop-place-test.true) is);
    }

pub returns-clause-projection : goal.returns-clause-projection
returns-clause-projection c =
    let h = c.args.history.now in
    let counted = c.loop-place.invariant.counted in
    projection_of h c.loop-place.projection.items (entry_of c.args.commits.now) c.requires
    (omega (arith, counted, c.loop-place-test.false, c.loop-place.auto.place-end))
    (λ i op at. c.loop-place.invariant.each i op
    (let within = slice_get_within h i op at in omega (arith, within, c.loop-place-test.false)) at)
