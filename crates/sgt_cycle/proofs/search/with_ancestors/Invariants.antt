use Rattle.std.proofs.Common.{◌+◌, ◌-◌, length}
use Rattle.sgt_cycle.proofs.Searched.{Searched}
use Rattle.sgt_cycle.proofs.search.with_ancestors.Given as goal

abbrev pub invariant-loop-at : goal.invariant-loop-at
invariant-loop-at l = Searched l.links l.targets l.at l.seen

abbrev pub decreases-loop-at : goal.decreases-loop-at
decreases-loop-at l = 128 - (length l.seen + l.at)
