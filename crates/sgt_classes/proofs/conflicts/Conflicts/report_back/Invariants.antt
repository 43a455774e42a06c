use Rattle.std.proofs.Common.{ℕ}
use Rattle.sgt_classes.specs.declared.operation.Action.{Action}
use Rattle.sgt_classes.specs.Histories.{Does}
use Rattle.sgt_classes.specs.Seen.{height}
use Rattle.sgt_classes.specs.FirstAccesses.{KnowsConflicts, AreReportedAbove}
use Rattle.sgt_classes.proofs.conflicts.Conflicts.report_back.Given as goal

abbrev pub invariant-loop-rival : goal.invariant-loop-rival
invariant-loop-rival l = record {
  conflicts : KnowsConflicts l.operations l.place (height l.rival) l.self;
  above : (u : ℕ) (b : Action) → Does l.operations l.place u b
      → AreReportedAbove l.rivals.kind l.operations l.self.edges.items l.place l.item u l.rival;
}

abbrev pub decreases-loop-rival : goal.decreases-loop-rival
decreases-loop-rival l = height l.rival
