use Rattle.std.proofs.Common.{rules, ◌≡◌, ◌<◌, ◌≤◌, true, length, sym, ap, subst, arith}
use Rattle.sgt_model.specs.AccessList.{ListedAccess}
use Rattle.sgt_access.specs.Places.{is_at}
use Rattle.sgt_access.specs.Masks.{spot_at}
use Rattle.sgt_access.proofs.Spots.{IsRaised}
use Rattle.sgt_access.proofs.Covering.{masks_noted}
use Rattle.sgt_access.proofs.masks.Masks.add.Goals as goal

pub returns-then-index-len : goal.returns-then-index-len
returns-then-index-len c accesses covers some =
    let places = c.place_for.new.self.places in
    let spots = c.place_for.new.self.spots.items in
    let index = c.spot_of-index.result in
    let old = c.index_mut.result.now in
    let new = c.add.new.self in
    let at_key : index ≡ spot_at c.args.access.key = search rules in
    let short : index < length spots = search rules in
    let at : is_at places.taken places.tids c.args.access.by c.in-Some.place ≡ true =
    subst (λ u. is_at places.taken places.tids u c.in-Some.place ≡ true) (ap (λ (a : ListedAccess). a.by) c.access.view_is) c.in-Some.ensures.place.1 in
    let raised : IsRaised old new c.only.result c.args.access.key c.args.access.kind = record {
      readers = λ i. search rules;
      writers = λ i. search rules;
      one_key = search rules;
    } in
    masks_noted spots index old new c.args.access at_key short (sym c.index_mut.ensures.value) places.taken places.tids accesses
    c.in-Some.place c.only.result at c.only.ensures raised (c.place_for.ensures.covers accesses covers (omega (arith, short)))

pub returns-else-index-len : goal.returns-else-index-len
returns-else-index-len c accesses covers some =
    let many = (c.place_for.ensures.covers accesses covers some).many in
    let within = c.spot_of-index.ensures.within in
    let outside : length c.place_for.new.self.spots.items ≤ c.spot_of-index.result = search rules in
    absurd (omega (arith, many, within, outside))
