use Rattle.std.proofs.Common.{rules, ◌<◌, length, get_or, ◌∙◌, arith}
use Rattle.std.proofs.Math.ListN.{length-set}
use Rattle.std.proofs.lemmas.Option.{slice_get-get_or}
use Rattle.sgt_appends.specs.declared.sorting.Link.{Link}
use Rattle.sgt_appends.specs.declared.witness.Reason.TheVariants.{Seen}
use Rattle.sgt_appends.proofs.Sortings.{among_at, chain_one}
use Rattle.sgt_appends.proofs.sorting.chain.Goals as goal

pub offset_bounds-heads-to : goal.offset_bounds-heads-to
offset_bounds-heads-to c =
    let d : Link = record { from = 0; to = 0; reason = Seen 0 0 } in
    let it = c.requires.within _ (among_at c.args.links.now c.loop-place.place _
    (slice_get-get_or c.args.links.now c.loop-place.place d c.loop-place-test.true)) in
    let within : (get_or c.args.links.now c.loop-place.place d).to < length c.loop-place.heads = omega
    (arith, it.1, c.loop-place.invariant.nodes) in
    search rules

pub bounds-heads-to : goal.bounds-heads-to
bounds-heads-to c =
    let d : Link = record { from = 0; to = 0; reason = Seen 0 0 } in
    let it = c.requires.within _ (among_at c.args.links.now c.loop-place.place _
    (slice_get-get_or c.args.links.now c.loop-place.place d c.loop-place-test.true)) in
    let within : (get_or c.args.links.now c.loop-place.place d).to < length c.loop-place.heads = omega
    (arith, it.1, c.loop-place.invariant.nodes) in
    within

pub offset_bounds-heads-to-in-loop-place : goal.offset_bounds-heads-to-in-loop-place
offset_bounds-heads-to-in-loop-place c =
    let d : Link = record { from = 0; to = 0; reason = Seen 0 0 } in
    let it = c.requires.within _ (among_at c.args.links.now c.loop-place.place _
    (slice_get-get_or c.args.links.now c.loop-place.place d c.loop-place-test.true)) in
    let within : (get_or c.args.links.now c.loop-place.place d).to < length c.loop-place.heads = omega
    (arith, it.1, c.loop-place.invariant.nodes) in
    search rules

pub bounds-heads-to-in-loop-place : goal.bounds-heads-to-in-loop-place
bounds-heads-to-in-loop-place c =
    let d : Link = record { from = 0; to = 0; reason = Seen 0 0 } in
    let it = c.requires.within _ (among_at c.args.links.now c.loop-place.place _
    (slice_get-get_or c.args.links.now c.loop-place.place d c.loop-place-test.true)) in
    let within : (get_or c.args.links.now c.loop-place.place d).to < length c.loop-place.heads = omega
    (arith, it.1, c.loop-place.invariant.nodes) in
    within

pub loop-place-preserved : goal.loop-place-preserved
loop-place-preserved c =
    let d : Link = record { from = 0; to = 0; reason = Seen 0 0 } in
    let at = slice_get-get_or c.args.links.now c.loop-place.place d c.loop-place-test.true in
    let it = c.requires.within _ (among_at c.args.links.now c.loop-place.place _ at) in
    let within : (get_or c.args.links.now c.loop-place.place d).to < length c.loop-place.heads = omega
    (arith, it.1, c.loop-place.invariant.nodes) in
    record {
      nodes = length-set c.loop-place.heads _ _ ∙ c.loop-place.invariant.nodes;
      chained = rw c.in_ok-push.ensures.items (chain_one c.args.links.now c.loop-place.place c.loop-place.heads c.loop-place.before.items
          (get_or c.args.links.now c.loop-place.place d) c.loop-place.invariant.chained at within);
    }
