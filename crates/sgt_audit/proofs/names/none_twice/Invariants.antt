use Rattle.std.proofs.Common.{◌≡◌, ℕ, false, get_or, length, take}
use Rattle.sgt_model.specs.Paths.{Distinct}
use Rattle.sgt_audit.proofs.Numbers.{is_among}
use Rattle.sgt_audit.proofs.names.none_twice.Given as goal

abbrev pub invariant-loop-n : goal.invariant-loop-n
invariant-loop-n l = record {
  long : length l.seen.items ≡ l.fn.bound;
  marked : (k : ℕ) → get_or l.seen.items k false ≡ is_among (take l.n-index l.numbers) k;
  once : Distinct (take l.n-index l.numbers);
}
