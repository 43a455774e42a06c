use Rattle.std.specs.Prelude.{◌≡◌, ◌<◌, ℕ, Some, None, slice_get}
use Rattle.sgt_classes.specs.declared.operation.Operation.{Operation}
use Rattle.sgt_classes.specs.Tables.{entry_of}
use Rattle.sgt_classes.proofs.serial.Waits.first_left.Given as goal

abbrev pub invariant-loop-place : goal.invariant-loop-place
invariant-loop-place l = (i : ℕ) (op : Operation) → i < l.place → slice_get l.history i ≡ Some op
    → entry_of l.self.left op.transaction ≡ None
