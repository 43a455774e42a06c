-- Paths along a relation between transactions.
use Rattle.std.specs.Prelude.{◌≡◌, ◌⊎◌, ◌<◌, ℕ, List, [], ◌∷◌}

-- a path along the relation from t through the others to u
abbrev pub PathBy : (ℕ → ℕ → Type 0) → ℕ → List ℕ → ℕ → Type 0
PathBy step t [] u = step t u
PathBy step t (v ∷ others) u = step t v × PathBy step v others u

-- i steps lead from t to u
abbrev pub ReachBy : (ℕ → ℕ → Type 0) → ℕ → ℕ → ℕ → Type 0
ReachBy step i t u = ((i ≡ 0) × (t ≡ u)) ⊎ ((0 < i) × ((others : List ℕ) × PathBy step t others u))
