-- What a report on a history can name.
use Rattle.std.proofs.Common.{◌↔◌, List}
use Rattle.sgt_classes.specs.declared.operation.Operation.{Operation}
use Rattle.sgt_classes.specs.declared.serial.Serializability.{Serializability}
use Rattle.sgt_classes.specs.Histories.{IsWellFormed}
use Rattle.sgt_classes.specs.Serializability.{IsAcyclic}
use Rattle.sgt_classes.specs.Equivalence.{IsSerializable}
use Rattle.sgt_classes.specs.SerialOrders.{IsShown, IsSerial}
use Rattle.sgt_check.specs.Graphs.{CanBeNamed}

-- a serial order or a cycle that shows whether the history is serializable can be named by a report on it
pub can_be_named : (h : List Operation) (s : Serializability) → (IsSerial s ↔ IsAcyclic h)
    → (IsWellFormed h → IsSerial s ↔ IsSerializable h) → IsShown h s → CanBeNamed h s
can_be_named h s acyclic exact shown r report = record {
  counts = report.counts;
  acyclic = acyclic;
  serializable = exact;
  shown = shown;
  recoverable = report.recoverable;
  dirty_write = report.dirty_write;
  dirty_abort = report.dirty_abort;
  avoiding = report.avoiding;
  strict = report.strict;
  rigorous = report.rigorous;
  commit_ordered = report.commit_ordered;
}
