use Rattle.sgt_classes.specs.Tables.{entry_of}
use Rattle.sgt_classes.proofs.CommitOrders.{IsCommitOrder}
use Rattle.sgt_classes.proofs.commit_order.serial_commit_order.Given as goal

abbrev pub invariant-loop-place : goal.invariant-loop-place
invariant-loop-place l = IsCommitOrder l.history l.place l.order.items (entry_of l.left)
