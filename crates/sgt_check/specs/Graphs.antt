-- The text of the serialization graph of a history, with the cycle of its report.
use Rattle.std.specs.Prelude.{◌≡◌, ℕ, List}
use Rattle.sgt_classes.specs.declared.operation.Operation.{Operation}
use Rattle.sgt_classes.specs.declared.graph.Edge.{Edge}
use Rattle.sgt_classes.specs.declared.serial.Serializability.{Serializability}
use Rattle.sgt_classes.specs.SerialOrders.{IsShown}
use Rattle.sgt_classes.specs.FirstConflicts.{AreFirstConflicts}
use Rattle.sgt_notation.specs.declared.history.History.{History}
use Rattle.sgt_check.specs.declared.report.Report.{Report}
use Rattle.sgt_check.specs.Reports.{IsReport}
use Rattle.sgt_check.specs.GraphText.{graph_text}

-- the report with its serial order or cycle replaced by this one
abbrev pub with_shown : Serializability → Report → Report
with_shown shown r = record {
  counts = r.counts;
  serializability = shown;
  recoverable = r.recoverable;
  dirty_write = r.dirty_write;
  dirty_abort = r.dirty_abort;
  avoiding = r.avoiding;
  strict = r.strict;
  rigorous = r.rigorous;
  commit_ordered = r.commit_ordered;
}

-- A report on the history can name this serial order or cycle: with it in place of its own, it is still a report on
-- the history.
abbrev pub CanBeNamed : List Operation → Serializability → Type 0
CanBeNamed h shown = (r : Report) → IsReport h r → IsReport h (with_shown shown r)

-- The text of the serialization graph of the history. Each edge is named by its first two operations. Red are the
-- edges of a cycle that a report on the history can name.
pub record IsDrawn (h : History) (text : List ℕ) : Type 0 where
  pub shown : Serializability
  pub conflicts : List Edge
  pub found : IsShown h.operations.items shown
  pub named : CanBeNamed h.operations.items shown
  pub first : AreFirstConflicts h.operations.items conflicts
  pub written : text ≡ graph_text h conflicts shown
