use Rattle.std.proofs.Common.{◌≡◌, ◌+◌, ◌≤◌, All, length, vec_len, vec_capacity}
use Rattle.sgt_workers.proofs.pool.team_of.Given as goal

abbrev pub invariant-loop-consumer : goal.invariant-loop-consumer
invariant-loop-consumer g l =
    (goal.iterator-loop-consumer g).can_next l.consumer-iterator × (goal.iterator-loop-consumer g).is_finite l.consumer-iterator
    × (vec_len l.team + length l.consumer-iterator.rest.items ≡ vec_len l.fn.sessions)
    × (vec_len l.fn.sessions ≤ vec_capacity l.team)
    × All (λ t. t.queue ≡ l.producer.queue) l.consumer-iterator.rest.items
    × All (λ w. w.consumer.queue ≡ l.producer.queue) l.team.items
    × (vec_len l.sessions ≡ length l.consumer-iterator.rest.items)
    × (l.number ≡ vec_len l.team)
