use Rattle.std.proofs.Common.{◌≤◌, length}
use Rattle.sgt_c.proofs.access_list.start_of.Given as goal

abbrev pub invariant-loop-at : goal.invariant-loop-at
invariant-loop-at l = l.at ≤ length l.history.entries

abbrev pub decreases-loop-at : goal.decreases-loop-at
decreases-loop-at l = l.at
