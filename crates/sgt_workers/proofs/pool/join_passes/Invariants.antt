use Rattle.std.proofs.Common.{◌≡◌, ◌+◌, ◌≤◌, All, length, vec_len, vec_capacity}
use Rattle.sgt_workers.proofs.pool.join_passes.Given as goal

abbrev pub invariant-loop-one : goal.invariant-loop-one
invariant-loop-one g l =
    (goal.iterator-loop-one g).can_next l.one-iterator × (goal.iterator-loop-one g).is_finite l.one-iterator
    × All (λ e. e.stub.queue ≡ l.producer.queue) l.one-iterator.rest.items
    × (vec_len l.sessions + length l.one-iterator.rest.items ≡ vec_len l.fn.ended)
    × (vec_len l.fn.ended ≤ vec_capacity l.sessions)
    × (length l.one-iterator.rest.items ≡ l.producer.unjoined)
