use Rattle.std.proofs.Common.{rules, ◌≡◌, ◌<◌, length, sym, arith}
use Rattle.sgt_access.specs.Masks.{spot_at}
use Rattle.sgt_access.proofs.Spots.{IsLowered}
use Rattle.sgt_access.proofs.Covering.{masks_removed}
use Rattle.sgt_access.proofs.masks.Masks.remove.Goals as goal

pub returns-then-index-len : goal.returns-then-index-len
returns-then-index-len c t accesses rest by leaving less some =
    let spots = c.args.self.now.spots.items in
    let index = c.spot_of-index.result in
    let old = c.index_mut.result.now in
    let new = c.remove.new.self in
    let at_key : index ≡ spot_at c.args.access.key = search rules in
    let short : index < length spots = search rules in
    let lowered : IsLowered old new c.args.places = record {
      readers = λ i. search rules;
      writers = λ i. search rules;
      key = search rules;
      mixed = search rules;
    } in
    masks_removed spots index old new c.args.access at_key short (sym c.index_mut.ensures.value) c.args.self.now.places.taken
    c.args.self.now.places.tids accesses rest t c.args.places by less lowered (leaving (omega (arith, short)))
