-- Paths along a relation between numbers, and orders that agree with one. If the relation is that of conflict edges,
-- these are the paths and the serial orders of a serialization graph
-- (Bernstein, Hadzilacos and Goodman (1987), chapter 2).
use Rattle.std.specs.Prelude.{◌≡◌, ℕ, ◌<◌, ◌≤◌, Bool, true, ◌⊎◌, List, [], ◌∷◌, length}

-- from t, the numbers of the list, one after another, are a path along the relation; an empty list is a path of no step
abbrev pub PathOf : (ℕ → ℕ → Type 0) → ℕ → List ℕ → Type 0
PathOf step t [] = Unit {0}
PathOf step t (u ∷ rest) = step t u × PathOf step u rest

-- where a path from t ends
abbrev pub last_of : ℕ → List ℕ → ℕ
last_of t [] = t
last_of t (u ∷ rest) = last_of u rest

-- the number is in the list
abbrev pub Member : ℕ → List ℕ → Type 0
Member t [] = ⊥
Member t (u ∷ rest) = (t ≡ u) ⊎ Member t rest

-- at most `most` numbers pass the test: some list of at most this length has them all
pub record AtMost (most : ℕ) (counts : ℕ → Bool) : Type 0 where
  pub among : List ℕ
  pub few : length among ≤ most
  pub all : (t : ℕ) → counts t ≡ true → Member t among

-- none occurs twice
abbrev pub Distinct : List ℕ → Type 0
Distinct [] = Unit {0}
Distinct (t ∷ rest) = (Member t rest → ⊥) × Distinct rest

-- each is smaller than the next
abbrev pub Rising : List ℕ → Type 0
Rising [] = Unit {0}
Rising (t ∷ []) = Unit {0}
Rising (t ∷ u ∷ rest) = (t < u) × Rising (u ∷ rest)

-- some path leads from t to u along the relation
abbrev pub Reaches : (ℕ → ℕ → Type 0) → ℕ → ℕ → Type 0
Reaches step t u = (path : List ℕ) × PathOf step t path × (last_of t path ≡ u)

-- no path of one step or more returns to its start
abbrev pub Acyclic : (ℕ → ℕ → Type 0) → Type 0
Acyclic step = (t : ℕ) (path : List ℕ) → 0 < length path → PathOf step t path → last_of t path ≡ t → ⊥

-- a comes before b in the list
abbrev pub StandsBefore : ℕ → ℕ → List ℕ → Type 0
StandsBefore a b [] = ⊥
StandsBefore a b (c ∷ rest) = ((a ≡ c) × Member b rest) ⊎ StandsBefore a b rest

-- u is the least number from which a step leads to t
pub record IsLeastPredecessor (step : ℕ → ℕ → Type 0) (t u : ℕ) : Type 0 where
  pub pair : step u t
  pub least : (v : ℕ) → step v t → u ≤ v

-- no step leads to t
abbrev pub HasNoPredecessor : (ℕ → ℕ → Type 0) → ℕ → Type 0
HasNoPredecessor step t = (v : ℕ) → step v t → ⊥

-- an order of the members of a list that agrees with all edges among them: the first of each comes first
pub record Orders (pair : ℕ → ℕ → Type 0) (members order : List ℕ) : Type 0 where
  pub once : Distinct order
  pub only : (a : ℕ) → Member a order → Member a members
  pub all : (a : ℕ) → Member a members → Member a order
  pub first_first : (a b : ℕ) → Member a members → Member b members → pair a b → StandsBefore a b order
