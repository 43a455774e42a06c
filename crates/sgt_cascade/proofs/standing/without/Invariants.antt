use Rattle.std.proofs.Common.{◌≡◌, ◌≤◌, nat_eq, length, take}
use Rattle.std.specs.Prelude.{not}
use Rattle.std.specs.List.{filter}
use Rattle.sgt_cascade.proofs.standing.without.Given as goal

abbrev pub invariant-loop-i : goal.invariant-loop-i
invariant-loop-i l = record {
  left : l.left ≡ filter (λ u. not (nat_eq l.t u)) (take l.i l.list);
  few : length l.left ≤ l.i;
}
