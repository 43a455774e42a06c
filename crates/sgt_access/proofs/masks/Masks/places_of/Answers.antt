use Rattle.std.proofs.Common.{refl, sym, ◌∙◌}
use Rattle.sgt_cycle.proofs.Bits.{none_in}
use Rattle.sgt_access.proofs.Covering.{alone_at, masks_leave}
use Rattle.sgt_access.proofs.masks.Masks.places_of.Goals as goal

pub returns-in-Some : goal.returns-in-Some
returns-in-Some c accesses covers exact =
    let masks = covers exact in
    masks_leave c.args.self.now.places.taken c.args.self.now.places.tids c.args.self.now.spots.items accesses c.args.t c.only.result
    (λ i. c.only.ensures i
    ∙ alone_at c.args.self.now.places.taken c.args.self.now.places.tids accesses c.args.t c.in-Some.place masks.places
    c.in-Some.ensures.some.1 i) masks

pub returns-in-None : goal.returns-in-None
returns-in-None c accesses covers exact =
    masks_leave c.args.self.now.places.taken c.args.self.now.places.tids c.args.self.now.spots.items accesses c.args.t 0
    (λ i. none_in i ∙ sym (c.in-None.ensures.none refl i)) (covers exact)
