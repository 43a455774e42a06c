use Rattle.sgt_classes.specs.Tables.{entry_of, table_len}
use Rattle.sgt_classes.specs.Serializability.{ReachAll}
use Rattle.sgt_classes.specs.Sorting.{KnowsWaits, AllReady, AllWatched, AllWait}
use Rattle.sgt_classes.proofs.Orderings.{AreOrdered}
use Rattle.sgt_classes.proofs.serial.Waits.sort.Given as goal

abbrev pub invariant-loop-order : goal.invariant-loop-order
invariant-loop-order l = record {
  waits : KnowsWaits l.self;
  ready : AllReady l.self;
  watched : AllWatched l.self;
  wait : AllWait l.self;
  reach : ReachAll l.history l.self.edges.items;
  ordered : AreOrdered l.history l.self.edges.items l.order.items (entry_of l.self.left);
}

abbrev pub decreases-loop-order : goal.decreases-loop-order
decreases-loop-order l = table_len l.self.left
