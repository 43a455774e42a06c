use Rattle.sgt_classes.specs.Tables.{entry_of, table_len}
use Rattle.sgt_classes.proofs.ClosedPaths.{GoesBack}
use Rattle.sgt_classes.proofs.cycles.path_back.Given as goal

abbrev pub invariant-loop-place : goal.invariant-loop-place
invariant-loop-place l = GoesBack l.edges l.path.items (entry_of l.fn.incoming.tops) (entry_of l.incoming.tops) l.transaction

abbrev pub decreases-loop-place : goal.decreases-loop-place
decreases-loop-place l = table_len l.incoming.tops
