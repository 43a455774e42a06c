-- The claims of the answers for the levels.
use Rattle.std.specs.Prelude.{ℕ, List}
use Rattle.sgt_appends.specs.declared.transaction.Transaction.{Transaction}
use Rattle.sgt_appends.specs.Reads.{HasFault}
use Rattle.sgt_levels.specs.declared.levels.Committed.{Committed}
use Rattle.sgt_levels.specs.declared.levels.Committed.TheVariants.{Run, Fault, Partial, Cycle, Open}
use Rattle.sgt_levels.specs.declared.levels.Snapshot.{Snapshot}
use Rattle.sgt_levels.specs.declared.levels.Snapshot.TheVariants.{NotCommitted}
use Rattle.sgt_levels.specs.declared.levels.Snapshot.TheVariants as snapshots
use Rattle.sgt_levels.specs.declared.ordered.Ordered.{Ordered}
use Rattle.sgt_levels.specs.declared.ordered.Ordered.TheVariants as ordered
use Rattle.sgt_levels.specs.declared.levels.Writes.{Writes}
use Rattle.sgt_levels.specs.declared.levels.Writes.TheVariants as writes
use Rattle.sgt_levels.specs.declared.levels.Levels.{Levels}
use Rattle.sgt_levels.specs.Snapshots.{IsSnapshotRun, IsSnapshotIsolated}
use Rattle.sgt_levels.specs.Commits.{IsCommittedRun, IsReadCommitted}
use Rattle.sgt_levels.specs.Replays.{IsSnapshotReplay}
use Rattle.sgt_levels.specs.WriteOrders.{IsWriteOrder, IsReadUncommitted}

-- `Run`: the order is a run of committed reads. `Fault`, `Partial` and `Cycle`: there is none. The fault is one of the read.
abbrev pub IsCommittedRight : List Transaction → Committed → Type 0
IsCommittedRight h (Run order) = IsCommittedRun h order.items
IsCommittedRight h (Fault reader read fault) = HasFault h reader read fault × (¬ IsReadCommitted h)
IsCommittedRight h (Partial partial) = ¬ IsReadCommitted h
IsCommittedRight h (Cycle ties) = ¬ IsReadCommitted h
IsCommittedRight h Open = Unit {0}

-- `Run`: the order is that of a snapshot run, and replays with the starts. `NotCommitted` and `Cycle`: there is none.
abbrev pub IsSnapshotRight : List Transaction → Snapshot → Type 0
IsSnapshotRight h (snapshots.Run run) = ((begin : ℕ → ℕ) × (commit : ℕ → ℕ) × IsSnapshotRun h run.order.items begin commit)
    × IsSnapshotReplay h run.order.items run.starts.items
IsSnapshotRight h NotCommitted = ¬ IsSnapshotIsolated h
IsSnapshotRight h (snapshots.Cycle ties) = ¬ IsSnapshotIsolated h
IsSnapshotRight h snapshots.Open = Unit {0}

-- `Implied` and `Order`: there is a write order. `Cycle`: there is none.
abbrev pub IsWritesRight : List Transaction → Writes → Type 0
IsWritesRight h writes.Implied = IsReadUncommitted h
IsWritesRight h (writes.Order order) = IsWriteOrder h order.items
IsWritesRight h (writes.Cycle ties) = ¬ IsReadUncommitted h
IsWritesRight h writes.Open = Unit {0}

-- `Run`: the order is that of a snapshot run, and replays with the starts
abbrev pub IsOrderedRight : List Transaction → Ordered → Type 0
IsOrderedRight h (ordered.Run run) = IsSnapshotRight h (snapshots.Run run)
IsOrderedRight h (ordered.Cycle passages) = Unit {0}
IsOrderedRight h ordered.Open = Unit {0}

-- all answers are right
pub record AreRight (h : List Transaction) (levels : Levels) : Type 0 where
  pub writes : IsWritesRight h levels.writes
  pub committed : IsCommittedRight h levels.committed
  pub snapshot : IsSnapshotRight h levels.snapshot
