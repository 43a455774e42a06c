-- Paths of ties, as far as they were followed.
use Rattle.std.specs.Prelude.{◌≡◌, ◌⊎◌, ◌<◌, ℕ, List, Bool, true, false}
use Rattle.sgt_appends.specs.declared.transaction.Transaction.{Transaction}
use Rattle.sgt_levels.specs.declared.tie.Kind.{Kind}
use Rattle.sgt_levels.specs.declared.tie.Kind.TheVariants as kind
use Rattle.sgt_levels.specs.Steps.{ReachBy}
use Rattle.sgt_levels.specs.Levels.{Follows, Depends, Leads, IsSnapshotPath}
use Rattle.sgt_levels.specs.WriteOrders.{Overwrites}

-- what a tie of the kind shows
abbrev pub StepOf : List Transaction → Kind → ℕ → ℕ → Type 0
StepOf h kind.Follows = Follows h
StepOf h kind.Overwrites = Overwrites h

-- no step, or a snapshot path from t to u
abbrev pub SnapshotReaches : List Transaction → ℕ → ℕ → Type 0
SnapshotReaches h t u = (t ≡ u) ⊎ ((others : List ℕ) × IsSnapshotPath h t others u)

-- The ties lead from t to u. If the last one is a dependence it waits: a miss may come after it.
abbrev pub IsPending : List Transaction → ℕ → ℕ → ℕ → Bool → Type 0
IsPending h i t u false = ReachBy (Leads h) i t u
IsPending h i t u true = (0 < i) × ((m : ℕ) × SnapshotReaches h t m × Depends h m u)
