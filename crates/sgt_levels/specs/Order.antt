-- The levels in their order.
use Rattle.std.specs.Prelude.{List, ℕ}
use Rattle.sgt_appends.specs.declared.transaction.Transaction.{Transaction}
use Rattle.sgt_appends.specs.Runs.{IsSerializable}
use Rattle.sgt_levels.specs.Snapshots.{IsSnapshotRun, IsSnapshotIsolated}
use Rattle.sgt_levels.specs.Commits.{IsCommittedRun}

-- what is serializable is snapshot isolated
abbrev pub SerialIsSnapshot : Type 0
SerialIsSnapshot = (h : List Transaction) → IsSerializable h → IsSnapshotIsolated h

-- a snapshot run is a run of committed reads
abbrev pub SnapshotIsCommitted : Type 0
SnapshotIsCommitted = (h : List Transaction) (order : List ℕ) (begin commit : ℕ → ℕ) → IsSnapshotRun h order begin commit
    → IsCommittedRun h order
