use Rattle.std.proofs.Common.{◌≡◌, ◌∙◌, ap, length, arith}
use Rattle.sgt_workers.proofs.Loops.{one_by_one}
use Rattle.sgt_workers.proofs.pool.join_all.Goals as goal

pub loop-handle-preserved : goal.loop-handle-preserved
loop-handle-preserved g c =
    let i = c.loop-handle.invariant in
    let steps = c.in-Some.ensures.steps in
    let push = c.push_reserved.ensures in
    let F = c.args.producer.now.queue in
    let all = one_by_one c.loop-handle.handle-iterator.rest.items c.next.new.self.rest.items c.in-Some.handle c.loop-handle.ended.items
    c.push_reserved.new.self.items c.join.result (λ h. h.promise.0.value.queue ≡ F) (λ e. e.stub.queue ≡ F)
    steps.0 push.items (λ p. c.join.ensures ∙ p) i.4 i.5 in
    (tt, tt, omega (arith, i.2, push.len, ap length steps.0), omega (arith, i.3, push.capacity), all.0, all.1)
