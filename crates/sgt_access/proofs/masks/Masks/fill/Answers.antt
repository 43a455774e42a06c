use Rattle.std.proofs.Common.{rules, ◌≡◌, false, refl, length, arith, IsOk}
use Rattle.std.specs.Vec.{vec_len}
use Rattle.sgt_access.specs.declared.spot.Spot.{Spot}
use Rattle.sgt_access.proofs.Covering.{masks_none}
use Rattle.sgt_access.proofs.masks.Masks.fill.Goals as goal

pub returns : goal.returns
returns c some =
    let empty : Spot = record { key = c.in-Some.key; is_mixed = false; readers = 0; writers = 0 } in
    let many : length c.resize.new.self.items ≡ 1024 = search rules in
    let fine : IsOk c.resize.result = search rules in
    let cleared : vec_len c.clear.new.self ≡ 0 = search rules in
    masks_none _ _ c.resize.new.self.items empty c.new-self.ensures.free c.new-self.ensures.size many
    (λ index d low. c.resize.ensures.by_index.1 index d fine (omega (arith, cleared)) low) refl refl
