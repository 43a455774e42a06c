use Rattle.std.proofs.Common.{◌≡◌, ◌≤◌, ◌-◌, ◌++◌, length, take, drop}
use Rattle.sgt_cascade.specs.Standing.{with_member}
use Rattle.sgt_cascade.proofs.standing.add.Given as goal

abbrev pub invariant-loop-at : goal.invariant-loop-at
invariant-loop-at l = record {
  within : l.at ≤ length l.list;
  passed : take l.at l.list ++ with_member l.t (drop l.at l.list) ≡ with_member l.t l.list;
}

abbrev pub decreases-loop-at : goal.decreases-loop-at
decreases-loop-at l = length l.list - l.at
