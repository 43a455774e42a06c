use Rattle.std.proofs.Common.{◌<◌, ℕ}
use Rattle.sgt_levels.specs.Replays.{values_in}
use Rattle.sgt_levels.specs.WriteOrders.{FitsIn}
use Rattle.sgt_levels.proofs.writes.all_fit.Given as goal

abbrev pub invariant-loop-number : goal.invariant-loop-number
invariant-loop-number l = (t : ℕ) → t < l.number → FitsIn l.history (values_in l.lists) t
