use Rattle.std.proofs.Common.{◌≡◌, ◌<◌, arith, rules, [], length, Some, refl, sym, ap, subst, ◌∙◌}
use Rattle.std.proofs.lemmas.Option.{slice_get_read}
use Rattle.std.specs.Prelude.{slice_get, slice_index_or}
use Rattle.sgt_model.specs.declared.reply.Cause.TheVariants as cause
use Rattle.sgt_model.specs.declared.reply.Fate.TheVariants as fate
use Rattle.sgt_sched.specs.declared.fates.End.TheVariants as end
use Rattle.sgt_sched.specs.FateList.{fates_of_ends}
use Rattle.sgt_sched.specs.SchedulerView.{fate_at}
use Rattle.sgt_sched.proofs.FateLists.{fate_at-found, index_within, read-any}
use Rattle.sgt_sched.proofs.fates.Fates.get.Goals as goal

pub index-requires : goal.index-requires
index-requires c =
    let is : slice_get c.self.inside.ends.items c.t.inside.0 ≡ Some
    (end.Cycle c.in-Some-Cycle.index) = slice_get_read c.self.inside.ends.items _ c.t.inside.0 c.in-Some-Cycle.field-0.now refl
    (subst (λ l. c.t.inside.0 < length l) c.deref.ensures.value c.in-Some-Cycle.ensures.lookup.3.0)
    (c.in-Some-Cycle.ensures.lookup.1 ∙ ap (λ l. slice_index_or l c.t.inside.0 c.in-Some-Cycle.field-0.now) c.deref.ensures.value)
    ∙ ap Some c.in-Some-Cycle.field-0-is in
    omega (arith, index_within _ c.self.inside.ends.items c.t.inside.0 c.in-Some-Cycle.index c.self.invariant.placed is)

pub returns-in-Some-Cycle : goal.returns-in-Some-Cycle
returns-in-Some-Cycle c =
    let is : slice_get c.self.inside.ends.items c.t.inside.0 ≡ Some
    (end.Cycle c.in-Some-Cycle.index) = slice_get_read c.self.inside.ends.items _ c.t.inside.0 c.in-Some-Cycle.field-0.now refl
    (subst (λ l. c.t.inside.0 < length l) c.deref.ensures.value c.in-Some-Cycle.ensures.lookup.3.0)
    (c.in-Some-Cycle.ensures.lookup.1 ∙ ap (λ l. slice_index_or l c.t.inside.0 c.in-Some-Cycle.field-0.now) c.deref.ensures.value)
    ∙ ap Some c.in-Some-Cycle.field-0-is in
    let within = index_within _ c.self.inside.ends.items c.t.inside.0 c.in-Some-Cycle.index c.self.invariant.placed is in
    let cycle : c.copied.result ≡ slice_index_or c.self.inside.cycles.items c.in-Some-Cycle.index c.index.result.now = search rules in
    ap (λ w. Some (fate.Aborted (cause.Cycle w))) (cycle
    ∙ read-any c.self.inside.cycles.items c.in-Some-Cycle.index c.index.result.now [] within)
    ∙ sym (fate_at-found c.self.inside.cycles.items c.self.inside.ends.items c.t.inside.0 (end.Cycle c.in-Some-Cycle.index) is)
    ∙ ap (λ t. fate_at (fates_of_ends c.self.inside.cycles.items c.self.inside.ends.items) t) c.t.view_is
    ∙ ap (λ l. fate_at l.fates c.args.t) c.self.view_is
