use Rattle.std.proofs.Common.{◌≡◌, vec_len, vec_capacity}
use Rattle.sgt_session.specs.Numbers.{counted}
use Rattle.sgt_session.proofs.numbers.list_all.Given as goal

abbrev pub invariant-loop-k : goal.invariant-loop-k
invariant-loop-k l = (l.listed.items ≡ counted l.first l.k) × (vec_len l.listed ≡ l.k)
    × (vec_capacity l.listed ≡ vec_capacity l.fn.listed)
