use Rattle.std.proofs.Common.{◌≡◌, ◌<◌, ℕ, Some}
use Rattle.std.specs.Prelude.{length, slice_get}
use Rattle.sgt_classes.specs.Tables.{entry_of}
use Rattle.sgt_classes.specs.declared.operation.Operation.{Operation}
use Rattle.sgt_classes.specs.Seen.{projected}
use Rattle.sgt_classes.proofs.graph.projection_in_place.Given as goal

abbrev pub invariant-loop-place : goal.invariant-loop-place
invariant-loop-place l = record {
  counted : length l.projection.items ≡ l.place;
  each : (i : ℕ) (op : Operation) → i < l.place → slice_get l.history i ≡ Some op
      → slice_get l.projection.items i ≡ Some (projected (entry_of l.commits) op);
}
