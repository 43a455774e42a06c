use Rattle.std.proofs.Common.{rules, refl, ◌≡◌, ◌<◌, Some, length, slice_get}
use Rattle.std.proofs.lemmas.Option.{slice_get_within, slice_get_read}
use Rattle.sgt_explain.specs.Places.{placed_falls}
use Rattle.sgt_explain.proofs.FirstSources.{falls_item, some_source, all_sources}
use Rattle.sgt_explain.proofs.source.fall_source.Goals as goal

pub returns-then-number-fell-clause-some : goal.returns-then-number-fell-clause-some
returns-then-number-fell-clause-some c =
    let here : slice_get c.args.history.now c.args.place ≡ Some c.in_ok-get_entry.field-0 = search rules in
    let item : slice_get c.fell-fell.result.now c.args.number ≡ Some c.index-fell-number.result =
    slice_get_read c.fell-fell.result.now _ c.args.number c.index-fell-number.result refl (search rules) c.index-fell-number.is in
    some_source c.args.history.now c.args.place c.args.number c.index-fell-number.result c.first_source.result
    (falls_item c.args.history.now c.args.place c.args.number _ _ _ here c.fell-fell.ensures.fell item) c.first_source.ensures.none

pub returns-then-number-fell-clause-all : goal.returns-then-number-fell-clause-all
returns-then-number-fell-clause-all c =
    let here : slice_get c.args.history.now c.args.place ≡ Some c.in_ok-get_entry.field-0 = search rules in
    let item : slice_get c.fell-fell.result.now c.args.number ≡ Some c.index-fell-number.result =
    slice_get_read c.fell-fell.result.now _ c.args.number c.index-fell-number.result refl (search rules) c.index-fell-number.is in
    λ s legal below.
    all_sources c.args.history.now c.args.place c.args.number c.index-fell-number.result c.first_source.result
    (slice_get_within c.args.history.now c.args.place _ here)
    (falls_item c.args.history.now c.args.place c.args.number _ _ _ here c.fell-fell.ensures.fell item)
    c.first_source.ensures.none s legal

pub returns-else-number-fell-clause-some : goal.returns-else-number-fell-clause-some
returns-else-number-fell-clause-some c =
    λ t n at below reads.
    let within : c.args.number < length (placed_falls c.args.history.now c.args.place) = slice_get_within _ _ t at in
    search rules
