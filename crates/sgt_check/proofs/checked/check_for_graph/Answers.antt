use Rattle.std.proofs.Common.{◌↔◌, ◌++◌, ◌∙◌, ap, subst}
use Rattle.sgt_classes.specs.Classes.{BreaksRecoverability, IsFirstViolation}
use Rattle.sgt_classes.specs.Histories.{IsWellFormed}
use Rattle.sgt_classes.specs.Serializability.{IsAcyclic}
use Rattle.sgt_classes.specs.Equivalence.{IsSerializable}
use Rattle.sgt_classes.specs.SerialOrders.{IsShown, IsSerial}
use Rattle.sgt_classes.specs.FirstConflicts.{AreFirstConflicts}
use Rattle.sgt_check.specs.GraphText.{graph_text}
use Rattle.sgt_check.specs.Reports.{AreCounts}
use Rattle.sgt_check.proofs.Named.{can_be_named}
use Rattle.sgt_check.proofs.checked.check_for_graph.Goals as goal

pub returns-clause-written : goal.returns-clause-written
returns-clause-written c =
    let h = c.args.history.now in
    let same = c.as_slice-operations.ensures.value in
    let shown = c.in_ok-shown.shown in
    let conflicts = c.in_ok-conflicts.conflicts.items in
    let found = subst (λ l. IsShown l shown) same c.in_ok-shown.ensures.shown in
    let acyclic = subst (λ l. IsSerial shown ↔ IsAcyclic l) same c.in_ok-shown.ensures.acyclic in
    let exact = subst (λ l. IsWellFormed l → IsSerial shown ↔ IsSerializable l) same c.in_ok-shown.ensures.serializable in record {
      shown = shown;
      conflicts = conflicts;
      found = found;
      named = can_be_named h.operations.items shown acyclic exact found;
      first = subst (λ l. AreFirstConflicts l conflicts) same c.in_ok-conflicts.ensures;
      written = c.in_ok-append_graph.ensures ∙ ap (λ l. l ++ graph_text h c.as_slice.result.now shown) c.new-lines.ensures.items
          ∙ ap (λ l. graph_text h l shown) c.as_slice.ensures.value;
    }

pub returns-clause-verdict : goal.returns-clause-verdict
returns-clause-verdict c well =
    let same = c.as_slice-operations.ensures.value in
    c.is_sound.ensures c.args.history.now.operations.items
    (subst (λ l. IsWellFormed l → IsSerial c.in_ok-shown.shown ↔ IsSerializable l) same c.in_ok-shown.ensures.serializable well)
    (subst (λ l. IsFirstViolation (BreaksRecoverability l) c.in_ok-recoverable.recoverable) same c.in_ok-recoverable.ensures)

pub returns-clause-counts : goal.returns-clause-counts
returns-clause-counts c =
    subst (λ l. AreCounts l c.in_ok-counts.counts) c.as_slice-operations.ensures.value c.in_ok-counts.ensures
