-- What the evidence against a level shows.
use Rattle.std.proofs.Common.{ℕ, List, inl}
use Rattle.sgt_appends.specs.declared.fault.Fault.{Fault}
use Rattle.sgt_appends.specs.declared.transaction.Transaction.{Transaction}
use Rattle.sgt_appends.specs.Precedences.{AppendsOnce}
use Rattle.sgt_appends.specs.Reads.{own_at, HasFault}
use Rattle.sgt_appends.proofs.Passed.{reads_at, as_fault}
use Rattle.sgt_levels.specs.Snapshots.{IsSnapshotIsolated}
use Rattle.sgt_levels.specs.Commits.{IsReadCommitted}
use Rattle.sgt_levels.proofs.Commits.{committed_fault}
use Rattle.sgt_levels.proofs.Order.{snapshot_committed}

pub not_snapshot : (h : List Transaction) → ¬ IsReadCommitted h → ¬ IsSnapshotIsolated h
not_snapshot h none it = none (it.0, snapshot_committed h it.0 it.1 it.2 it.3)

pub fault_rules_out : (h : List Transaction) (t p : ℕ) (fault : Fault) → AppendsOnce h → HasFault h t p fault → ¬ IsReadCommitted h
fault_rules_out h t p fault once it =
    committed_fault h t it.0 (own_at h t p it.0) it.1 once it.2 (reads_at h t p it.0 it.1 it.3) (inl (as_fault h t p it.0 it.1 fault it.4))
