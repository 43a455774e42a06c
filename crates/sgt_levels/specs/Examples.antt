-- Histories that tell the levels apart.
use Rattle.std.specs.Prelude.{◌≡◌, ℕ, List, [], ◌∷◌}
use Rattle.std.specs.Global.{Vec}
use Rattle.sgt_appends.specs.declared.transaction.Operation.{Operation}
use Rattle.sgt_appends.specs.declared.transaction.Operation.TheVariants.{Append, Read}
use Rattle.sgt_appends.specs.declared.transaction.Status.TheVariants.{Committed}
use Rattle.sgt_appends.specs.declared.transaction.Transaction.{Transaction}
use Rattle.sgt_appends.specs.Runs.{IsSerializable}
use Rattle.sgt_levels.specs.Snapshots.{IsSnapshotIsolated}

-- two committed transactions
abbrev pub two_of : Vec Operation → Vec Operation → List Transaction
two_of first second = record { status = Committed; operations = first } ∷ record { status = Committed; operations = second } ∷ []

-- Write skew: each of two transactions reads the empty list to which the other appends. This is snapshot isolated, and
-- not serializable.
abbrev pub WriteSkewIsBetween : Type 0
WriteSkewIsBetween = (none : Vec ℕ) (first second : Vec Operation) → none.items ≡ []
    → first.items ≡ Read 0 none ∷ Append 1 5 ∷ [] → second.items ≡ Read 1 none ∷ Append 0 6 ∷ []
    → IsSnapshotIsolated (two_of first second) × (¬ IsSerializable (two_of first second))

-- Lost update: each of two transactions reads the empty list to which both append. This is not snapshot isolated.
abbrev pub LostUpdateIsNoSnapshot : Type 0
LostUpdateIsNoSnapshot = (none : Vec ℕ) (first second : Vec Operation) → none.items ≡ []
    → first.items ≡ Read 0 none ∷ Append 0 5 ∷ [] → second.items ≡ Read 0 none ∷ Append 0 6 ∷ []
    → ¬ IsSnapshotIsolated (two_of first second)
