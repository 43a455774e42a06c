use Rattle.std.proofs.Common.{◌≡◌, ◌+◌, ◌-◌, ◌≤◌, ℕ, length, get_or}
use Rattle.sgt_explain.proofs.bounds.cover.Given as goal

abbrev pub invariant-loop-t : goal.invariant-loop-t
invariant-loop-t l = record {
  same : (u : ℕ) → get_or l.list.items u l.number ≡ get_or l.fn.list.items u l.number;
  no_less : length l.fn.list.items ≤ length l.list.items;
}

abbrev pub decreases-loop-t : goal.decreases-loop-t
decreases-loop-t l = l.fn.t + 1 - length l.list.items
