use Rattle.std.proofs.Common.{◌≡◌, List, ◌++◌}
use Rattle.std.specs.Vec.{vec_len, vec_capacity}
use Rattle.sgt_log.proofs.prefault.prefault_ahead.Given as goal

abbrev pub invariant-loop : goal.invariant-loop
invariant-loop g l =
    (vec_len l.list ≡ l.counter)
    × (vec_capacity l.list ≡ vec_capacity l.initial.list)
    × ((more : List g.row.T.Denot) × (l.list.items ≡ l.initial.list.items ++ more))
