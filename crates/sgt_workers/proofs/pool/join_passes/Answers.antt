use Rattle.std.proofs.Common.{◌≡◌, ◌∙◌, ap, sym, length, arith}
use Rattle.sgt_dispatch.specs.Ends.{ProducerState}
use Rattle.sgt_workers.proofs.Loops.{first_and_rest}
use Rattle.sgt_workers.proofs.pool.join_passes.Goals as goal

pub join-producer-requires : goal.join-producer-requires
join-producer-requires g c =
    let i = c.loop-one.invariant in
    (first_and_rest c.loop-one.one-iterator.rest.items c.next.new.self.rest.items c.in-Some.one
    (λ e. e.stub.queue ≡ c.loop-one.producer.queue) c.in-Some.ensures.steps.0 i.2).0

pub loop-one-preserved : goal.loop-one-preserved
loop-one-preserved g c =
    let i = c.loop-one.invariant in
    let steps = c.in-Some.ensures.steps in
    let push = c.push_reserved.ensures in
    let count = ap length steps.0 in
    let same = ap (λ (p : ProducerState). p.queue) c.join-producer.ensures.joined in
    let fewer = ap (λ (p : ProducerState). p.unjoined) c.join-producer.ensures.joined in
    let rest = (first_and_rest c.loop-one.one-iterator.rest.items c.next.new.self.rest.items c.in-Some.one
    (λ e. e.stub.queue ≡ c.loop-one.producer.queue) steps.0 i.2).1 in (
      tt,
      tt,
      (λ k d lt. rest k d lt ∙ sym same),
      omega (arith, i.3, push.len, count),
      omega (arith, i.4, push.capacity),
      omega
          (arith, i.5, fewer, count),
    )
