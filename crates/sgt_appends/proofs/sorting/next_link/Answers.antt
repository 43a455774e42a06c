use Rattle.std.proofs.Common.{rules, ◌<◌, ◌≤◌, ◌-◌, ℕ, List, get_or, length, arith}
use Rattle.std.proofs.lemmas.Option.{slice_get_within}
use Rattle.sgt_appends.specs.declared.sorting.Link.{Link}
use Rattle.sgt_appends.specs.declared.witness.Reason.TheVariants.{Seen}
use Rattle.sgt_appends.specs.Graphs.{IsSorted}
use Rattle.sgt_appends.proofs.Sortings.{among_at, head_at, head_to, none_left, pass_one, set_here}
use Rattle.sgt_appends.proofs.sorting.next_link.Goals as goal

abbrev nothing : Link
nothing = record { from = 0; to = 0; reason = Seen 0 0 }

from_within : (links : List Link) (heads before ranks : List ℕ) (v : ℕ) → IsSorted links heads before ranks → 0 < get_or heads v 0
    → (get_or links (get_or heads v 0 - 1) nothing).from < length ranks
from_within links heads before ranks v is some =
    (is.within _ (among_at links _ _ (head_at links heads before ranks v nothing is some))).0

link_within : (links : List Link) (heads before ranks : List ℕ) (v : ℕ) → IsSorted links heads before ranks → 0 < get_or heads v 0
    → get_or heads v 0 - 1 < length before
link_within links heads before ranks v is some =
    let it = is.last v some in
    omega (arith, is.long, slice_get_within links (get_or heads v 0 - 1) it.0 it.1)

pub offset_bounds-ranks-link : goal.offset_bounds-ranks-link
offset_bounds-ranks-link c =
    let some : 0 < get_or c.loop-heads.heads c.args.node 0 = omega (arith, c.loop-heads-test.true) in
    let it = from_within c.args.links.now c.loop-heads.heads c.args.before.now c.args.ranks.now c.args.node c.loop-heads.invariant some in
    search rules

pub bounds-ranks-link : goal.bounds-ranks-link
bounds-ranks-link c =
    let some : 0 < get_or c.loop-heads.heads c.args.node 0 = omega (arith, c.loop-heads-test.true) in
    from_within c.args.links.now c.loop-heads.heads c.args.before.now c.args.ranks.now c.args.node c.loop-heads.invariant some

pub returns-then-ranks-link-eq0-clause-among : goal.returns-then-ranks-link-eq0-clause-among
returns-then-ranks-link-eq0-clause-among c =
    let some : 0 < get_or c.loop-heads.heads c.args.node 0 = omega (arith, c.loop-heads-test.true) in
    among_at c.args.links.now _ _ (head_at c.args.links.now c.loop-heads.heads c.args.before.now c.args.ranks.now c.args.node nothing
    c.loop-heads.invariant some)

pub returns-then-ranks-link-eq0-clause-to : goal.returns-then-ranks-link-eq0-clause-to
returns-then-ranks-link-eq0-clause-to c =
    let some : 0 < get_or c.loop-heads.heads c.args.node 0 = omega (arith, c.loop-heads-test.true) in
    head_to c.args.links.now c.loop-heads.heads c.args.before.now c.args.ranks.now c.args.node nothing c.loop-heads.invariant some

pub offset_bounds-before-place : goal.offset_bounds-before-place
offset_bounds-before-place c =
    let some : 0 < get_or c.loop-heads.heads c.args.node 0 = omega (arith, c.loop-heads-test.true) in
    let it = link_within c.args.links.now c.loop-heads.heads c.args.before.now c.args.ranks.now c.args.node c.loop-heads.invariant some in
    search rules

pub bounds-before-place : goal.bounds-before-place
bounds-before-place c =
    let some : 0 < get_or c.loop-heads.heads c.args.node 0 = omega (arith, c.loop-heads-test.true) in
    link_within c.args.links.now c.loop-heads.heads c.args.before.now c.args.ranks.now c.args.node c.loop-heads.invariant some

pub loop-heads-smaller : goal.loop-heads-smaller
loop-heads-smaller c =
    let some : 0 < get_or c.loop-heads.heads c.args.node 0 = omega (arith, c.loop-heads-test.true) in
    let is = c.loop-heads.invariant in
    let h : ℕ = get_or c.loop-heads.heads c.args.node 0 in
    let at = head_at c.args.links.now c.loop-heads.heads c.args.before.now c.args.ranks.now c.args.node nothing is some in
    let less : get_or c.args.before.now (h - 1) 0 ≤ h - 1 = (is.earlier (h - 1) _ at).1 in
    let within : c.args.node < length c.loop-heads.heads = omega (arith, is.nodes, c.requires.within) in
    omega (arith, less, some, set_here c.loop-heads.heads c.args.node (get_or c.args.before.now (h - 1) 0) within)

pub loop-heads-preserved : goal.loop-heads-preserved
loop-heads-preserved c =
    let some : 0 < get_or c.loop-heads.heads c.args.node 0 = omega (arith, c.loop-heads-test.true) in
    let is = c.loop-heads.invariant in
    let within : c.args.node < length c.loop-heads.heads = omega (arith, is.nodes, c.requires.within) in
    let l : Link = get_or c.args.links.now (get_or c.loop-heads.heads c.args.node 0 - 1) nothing in
    let ranked : 0 < get_or c.args.ranks.now l.from 0 = omega (arith, c.if-ranks-link-eq0.false) in
    pass_one c.args.links.now c.loop-heads.heads c.args.before.now c.args.ranks.now c.args.node l is some within
    (head_at c.args.links.now c.loop-heads.heads c.args.before.now c.args.ranks.now c.args.node nothing is some) ranked

pub returns-clause-none : goal.returns-clause-none
returns-clause-none c = λ _ l among to.
    none_left c.args.links.now c.loop-heads.heads c.args.before.now c.args.ranks.now c.args.node c.loop-heads.invariant
    c.loop-heads-test.false
    l among to
