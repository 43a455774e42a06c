use Rattle.std.proofs.Common.{◌≡◌, arith, Some, None, refl, ap, ◌∙◌, slice_set}
use Rattle.std.specs.Prelude.{slice_get}
use Rattle.std.proofs.lemmas.List.{length-set}
use Rattle.sgt_model.specs.ShortReplies.{full_fate}
use Rattle.sgt_sched.specs.declared.fates.End.TheVariants as end
use Rattle.sgt_sched.specs.FateList.{fates_of_ends}
use Rattle.sgt_sched.proofs.FateLists.{fates-set, have-more, have-set, live-set, started}
use Rattle.sgt_sched.proofs.fates.Fates.end.Goals as goal

pub end_of-end-requires-clause-enough : goal.end_of-end-requires-clause-enough
end_of-end-requires-clause-enough c =
    let here : slice_get (fates_of_ends c.self.inside.cycles.items c.self.inside.ends.items) c.args.t ≡ Some None = ap
    (λ f. slice_get f.fates c.args.t) c.self.view_is ∙ c.requires.live in
    let less = live-set c.self.inside.cycles.items c.self.inside.ends.items c.args.t end.Quit here refl in
    omega (arith, less, c.self.invariant.counted, c.self.invariant.enough)

pub end_of-end-requires-clause-few : goal.end_of-end-requires-clause-few
end_of-end-requires-clause-few c =
    let here : slice_get (fates_of_ends c.self.inside.cycles.items c.self.inside.ends.items) c.args.t ≡ Some None = ap
    (λ f. slice_get f.fates c.args.t) c.self.view_is ∙ c.requires.live in
    let less = live-set c.self.inside.cycles.items c.self.inside.ends.items c.args.t end.Quit here refl in
    omega (arith, less, c.self.invariant.counted, c.self.invariant.ended, c.self.invariant.few)

pub overflow_sub-self : goal.overflow_sub-self
overflow_sub-self c =
    let here : slice_get (fates_of_ends c.self.inside.cycles.items c.self.inside.ends.items) c.args.t ≡ Some None = ap
    (λ f. slice_get f.fates c.args.t) c.self.view_is ∙ c.requires.live in
    let less = live-set c.self.inside.cycles.items c.self.inside.ends.items c.args.t end.Quit here refl in
    omega (arith, less, c.self.invariant.counted)

pub index_mut-requires : goal.index_mut-requires
index_mut-requires c =
    let here : slice_get (fates_of_ends c.self.inside.cycles.items c.self.inside.ends.items) c.t.inside.0 ≡ Some None = ap
    (λ t. slice_get (fates_of_ends c.self.inside.cycles.items c.self.inside.ends.items) t) c.t.view_is
    ∙ ap (λ f. slice_get f.fates c.args.t) c.self.view_is ∙ c.requires.live in
    omega (arith, started c.self.inside.cycles.items c.self.inside.ends.items c.t.inside.0 here)

pub invariant_of-self : goal.invariant_of-self
invariant_of-self c =
    let here : slice_get (fates_of_ends c.self.inside.cycles.items c.self.inside.ends.items) c.t.inside.0 ≡ Some None = ap
    (λ t. slice_get (fates_of_ends c.self.inside.cycles.items c.self.inside.ends.items) t) c.t.view_is
    ∙ ap (λ f. slice_get f.fates c.args.t) c.self.view_is ∙ c.requires.live in
    let less = live-set c.self.inside.cycles.items c.self.inside.ends.items c.t.inside.0 c.end_of-end.result here
    c.end_of-end.ensures.ended in
    let long = length-set c.self.inside.ends.items c.t.inside.0 c.end_of-end.result in
    record {
      placed = have-set _ c.self.inside.ends.items c.t.inside.0 c.end_of-end.result
          (have-more _ _ c.end_of-end.ensures.stay.count c.self.inside.ends.items c.self.invariant.placed) c.end_of-end.ensures.placed;
      counted = omega (arith, less, c.self.invariant.counted);
      enough = omega (arith, less, c.self.invariant.counted, c.self.invariant.enough, c.end_of-end.ensures.one, c.end_of-end.ensures.capacity);
      ended = omega (arith, less, long, c.self.invariant.counted, c.self.invariant.ended, c.end_of-end.ensures.one);
      few = omega (arith, long, c.self.invariant.few);
    }

pub returns : goal.returns
returns c =
    fates-set c.self.inside.cycles.items c.end_of-end.new.cycles.items c.self.inside.ends.items c.t.inside.0 c.end_of-end.result
    c.end_of-end.ensures.stay c.self.invariant.placed
    ∙ ap (λ f. slice_set (fates_of_ends c.self.inside.cycles.items c.self.inside.ends.items) c.t.inside.0 f) c.end_of-end.ensures.fate
    ∙ ap (λ t. slice_set (fates_of_ends c.self.inside.cycles.items c.self.inside.ends.items) t (Some
    (full_fate c.args.fate c.args.cycle.now))) c.t.view_is
    ∙ ap (λ l. slice_set l.fates c.args.t (Some (full_fate c.args.fate c.args.cycle.now))) c.self.view_is
