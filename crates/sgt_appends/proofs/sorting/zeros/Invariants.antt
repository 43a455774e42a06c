use Rattle.std.proofs.Common.{◌≡◌, ℕ, get_or, vec_len, vec_capacity}
use Rattle.sgt_appends.proofs.sorting.zeros.Given as goal

abbrev pub invariant-loop : goal.invariant-loop
invariant-loop l = record {
  long : vec_len l.zeros ≡ l.counter;
  capacity : vec_capacity l.zeros ≡ l.len;
  none : (i : ℕ) → get_or l.zeros.items i 0 ≡ 0;
}
