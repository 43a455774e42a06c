use Rattle.std.proofs.Common.{◌≡◌, ◌+◌, ◌≤◌, All, length, vec_len, vec_capacity}
use Rattle.sgt_workers.proofs.pool.start_all.Given as goal

abbrev pub invariant-loop-worker : goal.invariant-loop-worker
invariant-loop-worker g l =
    (goal.iterator-loop-worker g).can_next l.worker-iterator × (goal.iterator-loop-worker g).is_finite l.worker-iterator
    × (vec_len l.running + length l.worker-iterator.rest.items ≡ vec_len l.fn.team)
    × (vec_len l.fn.team ≤ vec_capacity l.running)
    × All (λ w. w.consumer.queue ≡ l.producer.queue) l.worker-iterator.rest.items
    × All (λ h. h.promise.0.value.queue ≡ l.producer.queue) l.running.items
