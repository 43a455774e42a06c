use denote.Param.Send.{sendable}
use Rattle.std.proofs.Common.{◌≡◌, ◌∙◌, ap, length, arith}
use Rattle.sgt_dispatch.specs.Ends.{ConsumerState}
use Rattle.sgt_session.proofs.Crossing.{shared_sync}
use Rattle.sgt_workers.specs.declared.worker.SameQueue.{SameQueue}
use Rattle.sgt_workers.proofs.worker.Worker.TheSendSync as worker
use Rattle.sgt_audit.proofs.Crossing.{outcomes_sync}
use Rattle.sgt_workers.proofs.Loops.{one_by_one}
use Rattle.sgt_workers.proofs.pool.start_all.Goals as goal

pub loop-worker-preserved : goal.loop-worker-preserved
loop-worker-preserved g c =
    let i = c.loop-worker.invariant in
    let steps = c.in-Some.ensures.steps in
    let push = c.push_reserved.ensures in
    let F = c.args.producer.now.queue in
    let all = one_by_one c.loop-worker.worker-iterator.rest.items c.next.new.self.rest.items c.in-Some.worker c.loop-worker.running.items
    c.push_reserved.new.self.items c.in-Ok.handle (λ w. w.consumer.queue ≡ F) (λ h. h.promise.0.value.queue ≡ F)
    steps.0 push.items (λ p. ap (λ (s : SameQueue). s.0.value.queue) c.in-Ok.ensures.ok
    ∙ (ap (λ (t : ConsumerState). t.queue) c.of.ensures ∙ p)) i.4 i.5 in
    (tt, tt, omega (arith, i.2, push.len, ap length steps.0), omega (arith, i.3, push.capacity), all.0, all.1)

pub spawn_with-requires-send-F : goal.spawn_with-requires-send-F
spawn_with-requires-send-F g c κs within =
    let b = c.type_bounds in
    let shared = shared_sync _ _ _ g.R.Records g.A.Accesses g.G.Graph _ g.N.Named g.N.Ledger b.send-N b.send-R b.send-A b.send-G in
    let outcomes = outcomes_sync _ b.send-T-Note in
    search (sendable, shared, outcomes, worker.the_send, b.sync-T, b.sync-W) depth 20
