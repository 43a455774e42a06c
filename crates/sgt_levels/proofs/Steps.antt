-- Paths along a relation: one step more, and cycles.
use Rattle.std.proofs.Common.{◌≡◌, ◌<◌, ◌+◌, ℕ, List, [], ◌∷◌, ◌++◌, sym, subst, inl, inr, arith}
use Rattle.sgt_levels.specs.Steps.{PathBy, ReachBy}

pub path_on : (step : ℕ → ℕ → Type 0) (t : ℕ) (others : List ℕ) (u v : ℕ) → PathBy step t others u → step u v
    → PathBy step t (others ++ u ∷ []) v
path_on step t [] u v path last = (path, last)
path_on step t (x ∷ others) u v path last = (path.0, path_on step x others u v path.1 last)

pub reach_on : (step : ℕ → ℕ → Type 0) (i t u v : ℕ) → ReachBy step i t u → step u v → ReachBy step (i + 1) t v
reach_on step i t u v (inl none) last = inr (omega arith, ([], subst (λ x. step x v) (sym none.1) last))
reach_on step i t u v (inr some) last = inr (omega arith, (some.1.0 ++ u ∷ [], path_on step t some.1.0 u v some.1.1 last))

pub path_back : (step : ℕ → ℕ → Type 0) (i t u : ℕ) → 0 < i → ReachBy step i t u → u ≡ t → (others : List ℕ) × PathBy step t others t
path_back step i t u some (inl none) same = absurd (omega (arith, some, none.0))
path_back step i t u some (inr it) same = (it.1.0, subst (λ x. PathBy step t it.1.0 x) same it.1.1)
