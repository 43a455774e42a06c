use Rattle.std.proofs.Common.{arith, refl, sym, ◌≤◌, ℕ, List, [], ◌∷◌, ◌++◌, length, true≢false, length-append}
use Rattle.sgt_model.specs.Paths.{Member, Distinct}
use Rattle.sgt_cycle.specs.Links.{is_link}
use Rattle.sgt_cycle.specs.Search.{LeadsBack}
use Rattle.sgt_cycle.proofs.Searched.{no_path}
use Rattle.sgt_cycle.proofs.Walked.{walked_next, walked_stops, walked_fits}
use Rattle.sgt_cycle.proofs.paths.walk.Goals as goal

pub returns-in_err-at-clause-none : goal.returns-in_err-at-clause-none
returns-in_err-at-clause-none c none =
    let out : Member c.args.source c.with_ancestors-seen.result → ⊥ = λ m. c.in_err-at.ensures.none refl (rw c.as_slice-list.ensures m) in
    no_path (is_link c.args.links.now) c.args.source c.args.targets.now c.with_ancestors-seen.result c.with_ancestors-seen.ensures.targets
    c.with_ancestors-seen.ensures.closed out

pub unreachable-requires : goal.unreachable-requires
unreachable-requires c =
    let list : List ℕ = c.as_slice-list.result.now in
    let back : LeadsBack (is_link c.args.links.now) c.args.targets.now list =
    rw c.as_slice-list.ensures c.with_ancestors-seen.ensures.back in
    let no_target : Member c.index-list-at.result c.args.targets.now → ⊥ =
    λ m. true≢false (sym (c.loop-list-test.ensures.1 (rw c.as_slice.ensures m))) in
    walked_stops (is_link c.args.links.now) c.args.source list c.args.targets.now c.loop-list.at c.index-list-at.result
    c.index-list-at-in-loop-list.result back c.loop-list.invariant.0
    c.index-list-at.is no_target c.index-list-at-in-loop-list.is (c.in_default.ensures.none refl)

pub push-requires-in-loop-list : goal.push-requires-in-loop-list
push-requires-in-loop-list c =
    let list : List ℕ = c.as_slice-list.result.now in
    let path : List ℕ = c.loop-list.path in
    let u : ℕ = c.index-list-next.result in
    let distinct : Distinct list = rw c.as_slice-list.ensures c.with_ancestors-seen.ensures.distinct in
    let h = walked_next (is_link c.args.links.now) c.args.source list c.loop-list.at path c.in-Some.next c.index-list-at-in-loop-list.result
    u distinct
    c.loop-list.invariant.1 c.loop-list.invariant.0 c.index-list-at-in-loop-list.is c.in-Some.ensures.within c.in-Some.ensures.link
    c.index-list-next.is in
    let fits : length (path ++ u ∷ []) ≤ 32 =
    walked_fits c.args.links.now c.args.source list c.in-Some.next (path ++ u ∷ []) c.requires.few h.1 in
    omega (arith, length-append path (u ∷ []))

pub loop-list-preserved : goal.loop-list-preserved
loop-list-preserved c =
    let list : List ℕ = c.as_slice-list.result.now in
    let distinct : Distinct list = rw c.as_slice-list.ensures c.with_ancestors-seen.ensures.distinct in
    let h = walked_next (is_link c.args.links.now) c.args.source list c.loop-list.at c.loop-list.path c.in-Some.next
    c.index-list-at-in-loop-list.result c.index-list-next.result distinct
    c.loop-list.invariant.1 c.loop-list.invariant.0 c.index-list-at-in-loop-list.is c.in-Some.ensures.within c.in-Some.ensures.link
    c.index-list-next.is in
    (h.0, rw c.push-in-loop-list.ensures h.1)
