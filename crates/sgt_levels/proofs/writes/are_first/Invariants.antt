use Rattle.std.proofs.Common.{◌≤◌, length, take}
use Rattle.sgt_levels.specs.WriteOrders.{AreKept}
use Rattle.sgt_levels.proofs.writes.are_first.Given as goal

abbrev pub invariant-loop-value : goal.invariant-loop-value
invariant-loop-value l = record {
  within : l.at ≤ length l.list;
  kept : AreKept l.history l.key (take l.value-index l.seen) (take l.at l.list);
}
