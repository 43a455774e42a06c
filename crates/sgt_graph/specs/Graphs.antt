-- Conflict edges between nodes, given by a test.
use Rattle.std.specs.Prelude.{◌≡◌, ℕ, ◌≤◌, Bool, true}
use Rattle.sgt_model.specs.Paths.{Acyclic}
use Rattle.sgt_cycle.specs.Path.{Holds}

-- no path along the edges returns to its start
abbrev pub NoCycle : (ℕ → ℕ → Bool) → Type 0
NoCycle pairs = Acyclic (Holds pairs)

-- each edge is between two nodes
abbrev pub OfNodes : (ℕ → Bool) → (ℕ → ℕ → Bool) → Type 0
OfNodes nodes pairs = (u v : ℕ) → pairs u v ≡ true → (nodes u ≡ true) × (nodes v ≡ true)

-- u is the least with an edge to t
pub record IsLeastPred (pairs : ℕ → ℕ → Bool) (t u : ℕ) : Type 0 where
  pub pair : pairs u t ≡ true
  pub least : (v : ℕ) → pairs v t ≡ true → u ≤ v
