-- Cycles of edges with their reasons, at the weaker levels.
use Rattle.std.specs.Prelude.{◌≡◌, List, [], ◌∷◌, Bool, true, false}
use Rattle.sgt_appends.specs.declared.witness.Edge.{Edge}
use Rattle.sgt_appends.specs.declared.witness.Reason.{Reason}
use Rattle.sgt_appends.specs.declared.witness.Reason.TheVariants.{Seen, Missed, InOrder}
use Rattle.sgt_appends.specs.declared.transaction.Transaction.{Transaction}
use Rattle.sgt_appends.specs.Precedences.{AppendsOnce}
use Rattle.sgt_appends.specs.Witnesses.{IsEdgeCycle}
use Rattle.sgt_levels.specs.Snapshots.{IsSnapshotIsolated}
use Rattle.sgt_levels.specs.Commits.{IsReadCommitted}

-- the reason is that the one missed a value of the other
abbrev pub is_miss : Reason → Bool
is_miss (Seen append read) = false
is_miss (Missed read append) = true
is_miss (InOrder first second reader read) = false

-- no two misses are next to one another; `before` says whether the edge before these is a miss
abbrev pub AreSpaced : Bool → List Edge → Type 0
AreSpaced before [] = Unit {0}
AreSpaced before (e ∷ es) = (before ≡ true → is_miss e.reason ≡ false) × AreSpaced (is_miss e.reason) es

-- whether the last of the edges is a miss, or `before` if there is none
abbrev pub ends_with_miss : Bool → List Edge → Bool
ends_with_miss before [] = before
ends_with_miss before (e ∷ es) = ends_with_miss (is_miss e.reason) es

-- on the cycle no two misses are next to one another
abbrev pub IsSpacedCycle : List Edge → Type 0
IsSpacedCycle edges = AreSpaced (ends_with_miss false edges) edges

-- such a cycle of edges leaves no snapshot run
abbrev pub SpacedCyclesAreEnough : Type 0
SpacedCyclesAreEnough = (h : List Transaction) (edges : List Edge) → AppendsOnce h → IsEdgeCycle h edges → IsSpacedCycle edges
    → ¬ IsSnapshotIsolated h

-- no edge is a miss
abbrev pub HasNoMiss : List Edge → Type 0
HasNoMiss [] = Unit {0}
HasNoMiss (e ∷ es) = (is_miss e.reason ≡ false) × HasNoMiss es

-- a cycle of edges without a miss leaves no run of committed reads
abbrev pub NoMissCyclesAreEnough : Type 0
NoMissCyclesAreEnough = (h : List Transaction) (edges : List Edge) → AppendsOnce h → IsEdgeCycle h edges → HasNoMiss edges
    → ¬ IsReadCommitted h
