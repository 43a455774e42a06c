use Rattle.std.proofs.Common.{◌≡◌, ◌+◌, ◌≤◌, All, length, vec_len, vec_capacity}
use Rattle.sgt_workers.proofs.pool.join_all.Given as goal

abbrev pub invariant-loop-handle : goal.invariant-loop-handle
invariant-loop-handle g l =
    (goal.iterator-loop-handle g).can_next l.handle-iterator × (goal.iterator-loop-handle g).is_finite l.handle-iterator
    × (vec_len l.ended + length l.handle-iterator.rest.items ≡ vec_len l.fn.running)
    × (vec_len l.fn.running ≤ vec_capacity l.ended)
    × All (λ h. h.promise.0.value.queue ≡ l.producer.queue) l.handle-iterator.rest.items
    × All (λ e. e.stub.queue ≡ l.producer.queue) l.ended.items
