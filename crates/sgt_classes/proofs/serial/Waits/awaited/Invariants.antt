use Rattle.std.specs.Prelude.{◌≡◌, None}
use Rattle.sgt_classes.specs.Tables.{entry_of}
use Rattle.sgt_classes.specs.Seen.{height}
use Rattle.sgt_classes.specs.Sorting.{IsTopEdge}
use Rattle.sgt_classes.proofs.serial.Waits.awaited.Given as goal

abbrev pub invariant-loop-top : goal.invariant-loop-top
invariant-loop-top l = record {
  top : IsTopEdge l.self.edges.items (entry_of l.self.left) l.fn.transaction l.top;
  stays : entry_of l.self.incoming.tops l.fn.transaction ≡ None → l.top ≡ None;
}

abbrev pub decreases-loop-top : goal.decreases-loop-top
decreases-loop-top l = height l.top
