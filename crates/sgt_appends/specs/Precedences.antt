-- Precedence: which transaction stands before which in each serial run.
use Rattle.std.specs.Prelude.{◌≡◌, ◌≢◌, ◌⊎◌, ◌++◌, ◌==◌, ℕ, List, [], ◌∷◌, if◌then◌else◌}
use Rattle.sgt_appends.specs.declared.transaction.Operation.{Operation}
use Rattle.sgt_appends.specs.declared.transaction.Operation.TheVariants.{Append, Read}
use Rattle.sgt_appends.specs.declared.transaction.Status.TheVariants.{Committed}
use Rattle.sgt_appends.specs.declared.transaction.Transaction.{Transaction}
use Rattle.sgt_appends.specs.Lists.{Has, IsOnce, StandsBefore}
use Rattle.sgt_appends.specs.Runs.{operations_of, Ended, IsSerialRun, IsSerializable}

-- the values that the operations append to the key
abbrev pub appended : ℕ → List Operation → List ℕ
appended k [] = []
appended k (Append key value ∷ os) = if k == key then value ∷ appended k os else appended k os
appended k (Read key values ∷ os) = appended k os

-- transaction t appends the value to the key
abbrev pub Appends : List Transaction → ℕ → ℕ → ℕ → Type 0
Appends h t k value = Has (appended k (operations_of h t)) value

-- One of the operations reads the values `seen` at the key, and those before it have appended `own` to it. `mine` was
-- appended before all of them.
abbrev pub HasReadAfter : List ℕ → List Operation → ℕ → List ℕ → List ℕ → Type 0
HasReadAfter mine [] k own seen = ⊥
HasReadAfter mine (Append key value ∷ os) k own seen = HasReadAfter (if k == key then mine ++ value ∷ [] else mine) os k own seen
HasReadAfter mine (Read key values ∷ os) k own seen = ((key ≡ k) × (mine ≡ own) × (values.items ≡ seen)) ⊎ HasReadAfter mine os k own seen

-- t has read these values at the key, after it had appended `own` to it
abbrev pub Reads : List Transaction → ℕ → ℕ → List ℕ → List ℕ → Type 0
Reads h t k own seen = HasReadAfter [] (operations_of h t) k own seen

-- t committed, and has read these values at the key
abbrev pub HasSeen : List Transaction → ℕ → ℕ → List ℕ → Type 0
HasSeen h t k seen = Ended h t Committed × ((own : List ℕ) × Reads h t k own seen)

-- the premise: no value is appended twice to a key
pub record AppendsOnce (h : List Transaction) : Type 0 where
  pub by_one : (t u k value : ℕ) → Appends h t k value → Appends h u k value → t ≡ u
  pub once : (t k : ℕ) → IsOnce (appended k (operations_of h t))

-- u saw a value of t
pub record WasSeen (h : List Transaction) (t u : ℕ) : Type 0 where
  pub key : ℕ
  pub value : ℕ
  pub seen : List ℕ
  pub appends : Appends h t key value
  pub has_seen : HasSeen h u key seen
  pub has : Has seen value

-- t read a list without a value of u
pub record WasMissed (h : List Transaction) (t u : ℕ) : Type 0 where
  pub key : ℕ
  pub value : ℕ
  pub seen : List ℕ
  pub appends : Appends h u key value
  pub has_seen : HasSeen h t key seen
  pub has_not : ¬ Has seen value

-- a reader saw a value of t before one of u
pub record WereSeen (h : List Transaction) (t u : ℕ) : Type 0 where
  pub reader : ℕ
  pub key : ℕ
  pub first : ℕ
  pub second : ℕ
  pub seen : List ℕ
  pub appends_first : Appends h t key first
  pub appends_second : Appends h u key second
  pub has_seen : HasSeen h reader key seen
  pub before : StandsBefore seen first second

-- what was observed shows that t precedes u
abbrev pub Precedes : List Transaction → ℕ → ℕ → Type 0
Precedes h t u = (t ≢ u) × (WasSeen h t u ⊎ (WasMissed h t u ⊎ WereSeen h t u))

-- in each serial run, if one transaction precedes another, it stands before it
abbrev pub PrecedencesAreObeyed : Type 0
PrecedencesAreObeyed = (h : List Transaction) (order : List ℕ) (t u : ℕ) → AppendsOnce h → IsSerialRun h order → Precedes h t u
    → Has order u → StandsBefore order t u

-- a path of precedences from t through the others to u
abbrev pub IsPath : List Transaction → ℕ → List ℕ → ℕ → Type 0
IsPath h t [] u = Precedes h t u
IsPath h t (v ∷ others) u = Precedes h t v × IsPath h v others u

-- if a transaction precedes itself along a path, there is no serial run
abbrev pub CyclesAreEnough : Type 0
CyclesAreEnough = (h : List Transaction) (t : ℕ) (others : List ℕ) → AppendsOnce h → IsPath h t others t → ¬ IsSerializable h
