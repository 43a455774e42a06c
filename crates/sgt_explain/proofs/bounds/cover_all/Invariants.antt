use Rattle.std.proofs.Common.{◌≡◌, ◌<◌, ◌≤◌, ℕ, length, take, get_or}
use Rattle.sgt_model.specs.Paths.{Member}
use Rattle.sgt_explain.proofs.bounds.cover_all.Given as goal

abbrev pub invariant-loop-i : goal.invariant-loop-i
invariant-loop-i l = record {
  same : (u : ℕ) → get_or l.list.items u l.number ≡ get_or l.fn.list.items u l.number;
  no_less : length l.fn.list.items ≤ length l.list.items;
  long : (u : ℕ) → Member u (take l.i l.tids) → u < length l.list.items;
}
