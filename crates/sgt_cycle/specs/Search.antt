-- What the search for a path finds, going back from the targets.
use Rattle.std.specs.Prelude.{ℕ, ◌<◌, ◌⊎◌, Bool, List, length, slice_index}
use Rattle.sgt_model.specs.Paths.{Member}
use Rattle.sgt_cycle.specs.Path.{Holds}

-- each number of the list is a target, or is related to one before it in the list
abbrev pub LeadsBack : (ℕ → ℕ → Bool) → List ℕ → List ℕ → Type 0
LeadsBack test targets seen = (j : ℕ) → j < length seen
    → Member (slice_index seen j) targets ⊎ ((i : ℕ) × (i < j) × Holds test (slice_index seen j) (slice_index seen i))
