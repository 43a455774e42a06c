-- What is reached along rows of indices.
use Rattle.std.specs.Prelude.{◌≡◌, ℕ, true, List}
use Rattle.sgt_model.specs.Paths.{Reaches}
use Rattle.sgt_cycle.specs.Indices.{is_bit}
use Rattle.sgt_cycle.specs.Path.{Holds}

-- in one step or more
abbrev pub Leads : List ℕ → ℕ → ℕ → Type 0
Leads rows i j = (k : ℕ) × (is_bit rows i k ≡ true) × Reaches (Holds (is_bit rows)) k j

-- the second rows have exactly the indices that are reached along the first: they contain the first, are transitive, and
-- have no other
pub record IsClosure (rows reached : List ℕ) : Type 0 where
  pub each : (i j : ℕ) → is_bit rows i j ≡ true → is_bit reached i j ≡ true
  pub joins : (i j k : ℕ) → is_bit reached i j ≡ true → is_bit reached j k ≡ true → is_bit reached i k ≡ true
  pub leads : (i j : ℕ) → is_bit reached i j ≡ true → Leads rows i j
