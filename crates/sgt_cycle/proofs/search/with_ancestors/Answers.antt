use Rattle.std.proofs.Common.{arith, refl}
use Rattle.sgt_cycle.proofs.Searched.{searched_start, searched_capacity, searched_push, searched_next}
use Rattle.sgt_cycle.proofs.search.with_ancestors.Goals as goal

pub loop-at-init : goal.loop-at-init
loop-at-init c = searched_start c.args.links.now c.args.targets.now c.distinct_members-seen.result c.distinct_members-seen.ensures.distinct
    c.distinct_members-seen.ensures.exact

pub push-requires : goal.push-requires
push-requires c = (
  omega arith,
  searched_capacity c.args.links.now c.args.targets.now c.requires.few c.distinct_members-seen.result c.loop-at.seen c.loop-at.at
      c.in-Some.source c.index-as_slice-at.result
      (λ t m. (c.distinct_members-seen.ensures.exact t).1 m) c.distinct_members-seen.ensures.few c.loop-at.invariant c.in-Some.ensures.link
      (λ m. c.in-Some.ensures.new (rw c.as_slice-in-loop-at.ensures m)),
)

pub loop-at-preserved-in-Some : goal.loop-at-preserved-in-Some
loop-at-preserved-in-Some c =
    rw c.push.ensures (searched_push c.args.links.now c.args.targets.now c.loop-at.seen c.loop-at.at c.in-Some.source
    c.index-as_slice-at.result
    c.loop-at.invariant (omega (arith, c.loop-at-test.true, c.len.ensures.count)) (rw c.as_slice.ensures at c.index-as_slice-at.is)
    c.in-Some.ensures.link
    (λ m. c.in-Some.ensures.new (rw c.as_slice-in-loop-at.ensures m)))

pub loop-at-preserved : goal.loop-at-preserved
loop-at-preserved c = searched_next c.args.links.now c.args.targets.now c.loop-at.seen c.loop-at.at c.index-as_slice-at.result
    c.loop-at.invariant (omega (arith, c.loop-at-test.true, c.len.ensures.count)) (rw c.as_slice.ensures at c.index-as_slice-at.is)
    (λ a link. rw c.as_slice-in-loop-at.ensures at (c.in-None.ensures.none refl a link))
