use Rattle.std.proofs.Common.{◌≡◌, ℕ, false, get_or, vec_len, vec_capacity}
use Rattle.sgt_appends.proofs.order.none_named.Given as goal

abbrev pub invariant-loop : goal.invariant-loop
invariant-loop l = record {
  long : vec_len l.named ≡ l.counter;
  capacity : vec_capacity l.named ≡ l.len;
  none : (t : ℕ) → get_or l.named.items t false ≡ false;
}
