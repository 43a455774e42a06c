use Rattle.std.specs.Prelude.{◌≡◌, ℕ, Some, slice_get}
use Rattle.sgt_classes.specs.declared.graph.Edge.{Edge}
use Rattle.sgt_classes.specs.Seen.{height}
use Rattle.sgt_classes.specs.Sorting.{KnowsWaits, AllReady, AllWatched, AllWaitBut}
use Rattle.sgt_classes.proofs.serial.Waits.release.Given as goal

abbrev pub invariant-loop-next : goal.invariant-loop-next
invariant-loop-next l = record {
  waits : KnowsWaits l.self;
  ready : AllReady l.self;
  watched : AllWatched l.self;
  wait : AllWaitBut l.self l.fn.transaction (height l.next);
  edges : l.self.edges ≡ l.fn.self.edges;
  left : l.self.left ≡ l.fn.self.left;
  next : (k : ℕ) → l.next ≡ Some k → (e : Edge) × (slice_get l.self.watched.edges.items k ≡ Some e) × (e.from ≡ l.fn.transaction);
}

abbrev pub decreases-loop-next : goal.decreases-loop-next
decreases-loop-next l = height l.next
