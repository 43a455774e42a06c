-- The state of a scheduler and its layers, as functions and lists.
use Rattle.std.specs.Prelude.{◌≡◌, ℕ, ℤ, Bool, true, ◌⊎◌, List, [], ◌∷◌, Option}
use Rattle.sgt_model.specs.declared.reply.Fate.{Fate}
use Rattle.sgt_model.specs.Contents.{Key}
use Rattle.sgt_model.specs.AccessList.{ListedAccess}
use Rattle.sgt_model.specs.Left.{Left}

-- the live transactions, the graph's nodes and edges, the access list, the chain and the committed value of each key, who
-- read from whom (source and reader), the fates, the number of starts, and the remainder of each
pub record State : Type 0 where
  pub live : List ℕ
  pub nodes : ℕ → Bool
  pub pairs : ℕ → ℕ → Bool
  pub accesses : List ListedAccess
  pub chain : Key → List (ℕ × Option ℤ)
  pub settled : Key → Option ℤ
  pub read_from : List (ℕ × ℕ)
  pub fates : ℕ → Option Fate
  pub start_count : ℕ
  pub left : ℕ → Left

-- the two numbers are a member of the list
abbrev pub Has : List (ℕ × ℕ) → ℕ → ℕ → Type 0
Has [] a b = ⊥
Has (p ∷ rest) a b = ((p.0 ≡ a) × (p.1 ≡ b)) ⊎ Has rest a b

-- the graph has an edge from t to u
abbrev pub PairIn : State → ℕ → ℕ → Type 0
PairIn c t u = c.pairs t u ≡ true
