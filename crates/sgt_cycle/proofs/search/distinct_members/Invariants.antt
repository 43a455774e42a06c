use Rattle.sgt_cycle.proofs.Searched.{Collected}
use Rattle.sgt_cycle.proofs.search.distinct_members.Given as goal

abbrev pub invariant-loop-i : goal.invariant-loop-i
invariant-loop-i l = Collected l.targets l.i l.seen
