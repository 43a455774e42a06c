use Rattle.std.proofs.Common.{get_or}
use Rattle.sgt_appends.specs.Graphs.{IsSorted}
use Rattle.sgt_appends.proofs.sorting.next_link.Given as goal

abbrev pub invariant-loop-heads : goal.invariant-loop-heads
invariant-loop-heads l = IsSorted l.links l.heads l.before l.ranks

abbrev pub decreases-loop-heads : goal.decreases-loop-heads
decreases-loop-heads l = get_or l.heads l.node 0
