use Rattle.std.proofs.Common.{◌≡◌, ◌<◌, length, slice_index_or, sym, refl, take, subst, arith, true≢false}
use Rattle.std.proofs.lemmas.List.{take_all}
use Rattle.sgt_model.specs.Paths.{Member}
use Rattle.sgt_cycle.proofs.Searched.{collected_push, collected_skip}
use Rattle.sgt_cycle.proofs.search.distinct_members.Goals as goal
use Rattle.sgt_cycle.proofs.search.distinct_members.Goals.{then-not-has, else-not-has}

pub push-requires : goal.push-requires
push-requires c =
    (omega arith, omega (arith, c.loop-i.invariant.short, c.loop-i-test.true, c.len-i-end.ensures.count, c.len-i-end.ensures.few))

pub loop-i-preserved : goal.loop-i-preserved
loop-i-preserved c =
    let below : c.loop-i.i < length c.args.targets.now = omega (arith, c.loop-i-test.true, c.len-i-end.ensures.count) in
    let is : c.index-as_slice-i.result ≡ slice_index_or c.args.targets.now c.loop-i.i c.index-as_slice-i.result =
    rw c.as_slice.ensures at c.index-as_slice-i.is in
    elim c.if-not-has.branch [
      | then-not-has w ↦ rw (w.seen-is, w.push.ensures) (collected_push c.args.targets.now c.loop-i.i c.loop-i.seen
          c.index-as_slice-i.result below is c.loop-i.invariant
          (λ m. true≢false (sym (w.if-not-has.ensures.1 (rw c.as_slice-in-loop-i.ensures m)))))
      | else-not-has w ↦ rw w.seen-is (collected_skip c.args.targets.now c.loop-i.i c.loop-i.seen c.index-as_slice-i.result below is
          c.loop-i.invariant
          (rw c.as_slice-in-loop-i.ensures at (w.if-not-has.ensures.0 refl)))
    ]

pub returns : goal.returns
returns c =
    let all : take c.loop-i.i c.args.targets.now ≡ c.args.targets.now =
    take_all c.loop-i.i c.args.targets.now (omega (arith, c.loop-i-test.false, c.len-i-end.ensures.count)) in
    record {
      distinct = c.loop-i.invariant.distinct;
      few = omega (arith, c.loop-i.invariant.short, c.loop-i.auto.i-end, c.len-i-end.ensures.count, c.len-i-end.ensures.few);
      exact = λ t. (
        (λ m. subst (λ l. Member t l) all ((c.loop-i.invariant.exact t).0 m)),
        (λ m. (c.loop-i.invariant.exact t).1 (subst (λ l. Member t l) (sym all) m)),
      );
    }
