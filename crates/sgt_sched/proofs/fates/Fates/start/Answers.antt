use Rattle.std.proofs.Common.{arith, length, [], ◌∷◌, ap}
use Rattle.std.proofs.lemmas.List.{length-append, length-map}
use Rattle.sgt_sched.specs.declared.fates.End.TheVariants as end
use Rattle.sgt_sched.specs.FateList.{fate_of_end}
use Rattle.sgt_sched.proofs.FateLists.{have-added, live-added}
use Rattle.sgt_sched.proofs.fates.Fates.start.Goals as goal

pub invariant_of-self : goal.invariant_of-self
invariant_of-self c =
    let long = length-append c.self.inside.ends.items (end.Live ∷ []) in
    let more = live-added c.self.inside.ends.items in
    let ready = ap (λ f. f.cycle_capacity) c.self.view_is in
    let begun = ap (λ f. length f.fates) c.self.view_is in
    let shown = length-map c.self.inside.ends.items (fate_of_end c.self.inside.cycles.items) in
    rw c.push_reserved.ensures.items (record {
      placed = have-added _ c.self.inside.ends.items c.self.invariant.placed;
      counted = omega (arith, more, c.self.invariant.counted);
      enough = omega (arith, ready, c.requires.ready.1);
      ended = omega (arith, long, c.self.invariant.ended);
      few = omega (arith, long, begun, shown, c.requires.few);
    })
