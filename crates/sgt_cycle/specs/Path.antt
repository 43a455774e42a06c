-- Paths along a relation that a test decides.
use Rattle.std.specs.Prelude.{◌≡◌, ℕ, Bool, true, List, [], ◌∷◌}
use Rattle.sgt_model.specs.Paths.{PathOf, last_of, Member, Distinct}

-- the test as a relation
abbrev pub Holds : (ℕ → ℕ → Bool) → ℕ → ℕ → Type 0
Holds test a b = test a b ≡ true

-- `Path`: t and then the rest is a path from t to one of the targets, along the relation, and through no number twice
pub record Path (test : ℕ → ℕ → Bool) (t : ℕ) (targets rest : List ℕ) : Type 0 where
  pub distinct : Distinct (t ∷ rest)
  pub goes : PathOf (Holds test) t rest
  pub ends : Member (last_of t rest) targets

-- this list is such a path from the source to one of the targets
abbrev pub IsPath : (ℕ → ℕ → Bool) → ℕ → List ℕ → List ℕ → Type 0
IsPath test source targets path = (rest : List ℕ) × (path ≡ source ∷ rest) × Path test source targets rest

-- no such path leads from the source to one of the targets
abbrev pub NoPath : (ℕ → ℕ → Bool) → ℕ → List ℕ → Type 0
NoPath test source targets = (rest : List ℕ) → Path test source targets rest → ⊥

-- each two neighbours of the path are related
abbrev pub Follows : (ℕ → ℕ → Bool) → List ℕ → Type 0
Follows test [] = Unit {0}
Follows test (t ∷ rest) = PathOf (Holds test) t rest
