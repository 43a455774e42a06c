use Rattle.std.proofs.Common.{◌≡◌, ◌+◌, ◌≤◌, [], replicate, vec_capacity}
use Rattle.sgt_session.proofs.new.first_sessions.Given as goal

abbrev pub invariant-loop-i : goal.invariant-loop-i
invariant-loop-i g l = (l.rest.parts + l._i ≡ l.sessions) × (l.rest.amount ≡ 0) × (l.list.items ≡ replicate l._i [])
    × (l.sessions ≤ vec_capacity l.list)
