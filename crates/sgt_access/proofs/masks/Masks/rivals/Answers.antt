use Rattle.std.proofs.Common.{rules, ◌≡◌, ◌<◌, true, false, length, arith}
use Rattle.sgt_model.specs.Contents.{key_eq}
use Rattle.sgt_access.proofs.Covering.{spot_known, said_zero, said_none, said_other, said_all}
use Rattle.sgt_access.proofs.masks.Masks.rivals.Goals as goal

pub returns-then-all-eq0 : goal.returns-then-all-eq0
returns-then-all-eq0 c accesses covers =
    let spot = c.index.result.now in
    let short : c.spot_of-index.result < length c.args.self.now.spots.items = search rules in
    let masks = covers (omega (arith, short)) in
    said_zero _ _ accesses spot c.args.t c.args.key c.args.kind c.conflicting-all.result masks.places
    (spot_known _ _ c.args.self.now.spots.items accesses c.spot_of-index.result c.args.key spot masks c.spot_of-index.ensures.index short c.index.ensures)
    c.conflicting-all.ensures c.if-all-eq0.true

pub returns-then-others-eq0 : goal.returns-then-others-eq0
returns-then-others-eq0 c accesses covers =
    let spot = c.index.result.now in
    let short : c.spot_of-index.result < length c.args.self.now.spots.items = search rules in
    let masks = covers (omega (arith, short)) in
    said_none _ _ accesses spot c.args.t c.args.key c.args.kind c.conflicting-all.result masks.places
    (spot_known _ _ c.args.self.now.spots.items accesses c.spot_of-index.result c.args.key spot masks c.spot_of-index.ensures.index short c.index.ensures)
    c.conflicting-all.ensures c.places_of.result c.minus-others.result (c.places_of.ensures accesses covers (omega (arith, short))).place
    c.minus-others.ensures.indices c.if-others-eq0.true

pub returns-then-eq : goal.returns-then-eq
returns-then-eq c accesses covers =
    let spot = c.index.result.now in
    let short : c.spot_of-index.result < length c.args.self.now.spots.items = search rules in
    let masks = covers (omega (arith, short)) in
    let alone : spot.is_mixed ≡ false = search rules in
    let same : key_eq spot.key c.args.key ≡ true = search rules in
    said_all _ _ accesses spot c.args.t c.args.key c.args.kind c.conflicting-all.result masks.places
    (spot_known _ _ c.args.self.now.spots.items accesses c.spot_of-index.result c.args.key spot masks c.spot_of-index.ensures.index short c.index.ensures)
    c.conflicting-all.ensures alone c.places_of.result c.minus-others.result (c.places_of.ensures accesses covers (omega (arith, short))).place
    c.minus-others.ensures.indices same

pub returns-else-eq : goal.returns-else-eq
returns-else-eq c accesses covers =
    let spot = c.index.result.now in
    let short : c.spot_of-index.result < length c.args.self.now.spots.items = search rules in
    let masks = covers (omega (arith, short)) in
    let alone : spot.is_mixed ≡ false = search rules in
    let differs : key_eq spot.key c.args.key ≡ false = search rules in
    said_other _ _ accesses spot c.args.t c.args.key c.args.kind c.conflicting-all.result masks.places
    (spot_known _ _ c.args.self.now.spots.items accesses c.spot_of-index.result c.args.key spot masks c.spot_of-index.ensures.index short c.index.ensures)
    c.conflicting-all.ensures alone differs
