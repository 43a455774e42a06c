use Rattle.std.proofs.Common.{rules, ◌≡◌, length, refl, slice_index, slice_index_or, ap, subst, ◌∙◌}
use Rattle.sgt_access.specs.Places.{Taken}
use Rattle.sgt_access.proofs.Collected.{collected_capacity, collected_more, collected_all, read_at}
use Rattle.sgt_access.proofs.places.Places.tids_at.Goals as goal

pub add_rising-requires-clause-capacity : goal.add_rising-requires-clause-capacity
add_rising-requires-clause-capacity c =
    let inside = c.self.inside.tids in
    let tids = c.args.self.now.tids in
    let same : inside ≡ tids = ap (λ (v : Taken). v.tids) c.self.view_is in
    let size : length inside ≡ 32 = search rules in
    collected_capacity c.args.places tids c.loop-place.left c.in-Some.place c.loop-place.tids.items c.ranges.places.fits
    (subst (λ l. length l ≡ 32) same size) c.loop-place.invariant c.in-Some.ensures.some.1 _
    (read_at inside c.from.result c.in-Some.place c.index-self-from.result size c.from.ensures c.in-Some.ensures.some.0
    ∙ ap (λ l. slice_index l c.in-Some.place) same)

pub loop-place-preserved : goal.loop-place-preserved
loop-place-preserved c =
    let inside = c.self.inside.tids in
    let tids = c.args.self.now.tids in
    let same : inside ≡ tids = ap (λ (v : Taken). v.tids) c.self.view_is in
    let size : length inside ≡ 32 = search rules in
    collected_more c.args.places tids c.loop-place.left c.in-Some.place c.minus-left.result c.only.result
    (slice_index_or inside c.from.result c.index-self-from.result) c.loop-place.tids.items c.add_rising.new.tids.items
    c.loop-place.invariant c.in-Some.ensures.some.1 c.only.ensures c.minus-left.ensures.indices
    (read_at inside c.from.result c.in-Some.place c.index-self-from.result size c.from.ensures c.in-Some.ensures.some.0
    ∙ ap (λ l. slice_index l c.in-Some.place) same)
    c.add_rising.ensures.members c.add_rising.ensures.rising

pub returns-clause-members : goal.returns-clause-members
returns-clause-members c = rw (c.in-Some-from_slice.ensures.items, c.as_slice.ensures.value)
    (collected_all c.args.places c.args.self.now.tids c.loop-place.left c.loop-place.tids.items c.loop-place.invariant
    (c.in_default.ensures.none refl))
