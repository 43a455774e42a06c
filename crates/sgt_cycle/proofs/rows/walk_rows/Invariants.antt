use Rattle.std.proofs.Common.{◌+◌, ◌*◌, length}
use Rattle.sgt_cycle.proofs.RowPaths.{Searching}
use Rattle.sgt_cycle.proofs.rows.walk_rows.Given as goal

abbrev pub invariant-loop-here : goal.invariant-loop-here
invariant-loop-here l = Searching l.rows l.source l.targets l.fresh l.path.items

abbrev pub decreases-loop-here : goal.decreases-loop-here
decreases-loop-here l = l.fresh * 33 + length l.path.items
