-- Which serial order is returned, and what shows whether a history is serializable.
use Rattle.std.specs.Prelude.{◌≡◌, ◌<◌, ◌+◌, ℕ, List, Some, slice_get}
use Rattle.sgt_classes.specs.declared.operation.Operation.{Operation}
use Rattle.sgt_classes.specs.declared.operation.Action.TheVariants.{Commit}
use Rattle.sgt_classes.specs.declared.serial.Serializability.{Serializability}
use Rattle.sgt_classes.specs.declared.serial.Serializability.TheVariants.{Serial, Cycle}
use Rattle.sgt_classes.specs.Histories.{Does, CommittedBefore, IsWellFormed}
use Rattle.sgt_classes.specs.Serializability.{Commits, IsEdge, IsSerialOrder, IsCycle}
use Rattle.sgt_classes.specs.Equivalence.{IsSerialRun, IsSerializable, serial_history}

-- u may come at position i of the order: it has not come before, and all that have an edge to it have
pub record MayComeAt (h : List Operation) (order : List ℕ) (i u : ℕ) : Type 0 where
  pub commits : Commits h u
  pub not_before : (j : ℕ) → j < i → ¬ (slice_get order j ≡ Some u)
  pub others_before : (t : ℕ) → IsEdge h t u → (j : ℕ) × (j < i) × (slice_get order j ≡ Some t)

-- The one that committed first always comes first of those that may come next: when another of them commits, it has
-- committed.
abbrev pub TakesFirst : List Operation → List ℕ → Type 0
TakesFirst h order = (i t u d : ℕ) → slice_get order i ≡ Some t → MayComeAt h order i u → Does h d u Commit → CommittedBefore h t (d + 1)

-- A serial order in which the transaction that committed first always comes first of those that may come next, with
-- its equivalent serial history. Or a cycle; then, if the history is well formed, no serial history is equivalent.
abbrev pub IsShown : List Operation → Serializability → Type 0
IsShown h (Serial order) =
    IsSerialOrder h order.items × TakesFirst h order.items × IsSerialRun h (serial_history h order.items)
IsShown h (Cycle edges) = IsCycle h edges.items × (IsWellFormed h → ¬ IsSerializable h)

-- the result is a serial order
abbrev pub IsSerial : Serializability → Type 0
IsSerial (Serial order) = Unit {0}
IsSerial (Cycle edges) = ⊥
