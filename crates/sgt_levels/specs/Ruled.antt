-- The levels, and what a cycle rules out.
use Rattle.std.specs.Prelude.{List}
use Rattle.sgt_appends.specs.declared.witness.Edge.{Edge}
use Rattle.sgt_appends.specs.declared.transaction.Transaction.{Transaction}
use Rattle.sgt_appends.specs.Runs.{IsSerializable}
use Rattle.sgt_appends.specs.Precedences.{AppendsOnce}
use Rattle.sgt_appends.specs.Witnesses.{IsEdgeCycle}
use Rattle.sgt_levels.specs.declared.ruling.Level.{Level}
use Rattle.sgt_levels.specs.declared.ruling.Level.TheVariants.{ReadCommitted, Snapshot, Serializable}
use Rattle.sgt_levels.specs.Snapshots.{IsSnapshotIsolated}
use Rattle.sgt_levels.specs.Commits.{IsReadCommitted}
use Rattle.sgt_levels.specs.Rounds.{IsSpacedCycle, HasNoMiss}

-- what the clients saw is of the level
abbrev pub IsOf : List Transaction → Level → Type 0
IsOf h ReadCommitted = IsReadCommitted h
IsOf h Snapshot = IsSnapshotIsolated h
IsOf h Serializable = IsSerializable h

-- a history in which the edges are a cycle is not of the level
abbrev pub RulesOut : List Edge → Level → Type 0
RulesOut edges level = (h : List Transaction) → AppendsOnce h → IsEdgeCycle h edges → ¬ IsOf h level

-- the level is the weakest that the misses of the cycle rule out: read committed if there is none, snapshot isolation if no
-- two are next to one another
abbrev pub IsWeakest : List Edge → Level → Type 0
IsWeakest edges ReadCommitted = HasNoMiss edges
IsWeakest edges Snapshot = IsSpacedCycle edges × (¬ HasNoMiss edges)
IsWeakest edges Serializable = (¬ IsSpacedCycle edges) × (¬ HasNoMiss edges)
