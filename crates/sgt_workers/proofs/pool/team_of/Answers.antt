use Rattle.std.proofs.Common.{◌≡◌, ap, length, arith}
use Rattle.sgt_workers.proofs.Loops.{one_by_one}
use Rattle.sgt_workers.proofs.pool.team_of.Goals as goal

pub loop-consumer-preserved : goal.loop-consumer-preserved
loop-consumer-preserved g c =
    let i = c.loop-consumer.invariant in
    let steps = c.in-Some.ensures.steps in
    let push = c.push_reserved.ensures in
    let F = c.args.producer.now.queue in
    let count = ap length steps.0 in
    let all = one_by_one c.loop-consumer.consumer-iterator.rest.items c.next.new.self.rest.items c.in-Some.consumer c.loop-consumer.team.items
    c.push_reserved.new.self.items _ (λ t. t.queue ≡ F) (λ w. w.consumer.queue ≡ F)
    steps.0 push.items (λ p. p) i.4 i.5 in (
      tt,
      tt,
      omega (arith, i.2, push.len, count),
      omega (arith, i.3, push.capacity),
      all.0,
      all.1,
      omega (arith, c.in-Some-pop.ensures.cases, i.6, count),
      omega (arith, i.7, push.len),
    )
