-- The result of a visit of a node.
use Rattle.std.specs.Prelude.{◌≡◌, ◌<◌, ℕ, List, Bool, true, false, length}
use Rattle.std.proofs.Common.{get_or}

-- the root is met, and all nodes met have a rank
pub record IsVisited (old_met : List Bool) (old_ranks : List ℕ) (met : List Bool) (ranks : List ℕ) (root : ℕ) : Type 0 where
  pub nodes : length ranks ≡ length old_ranks
  pub marks : length met ≡ length old_met
  pub placed : (v : ℕ) → get_or met v false ≡ true → 0 < get_or ranks v 0
  pub root_met : get_or met root false ≡ true
  pub others : (v : ℕ) → get_or old_met v false ≡ true → get_or met v false ≡ true
