-- Owners of transactions, such as threads: whether all of them may be blocked.
use Rattle.std.specs.Prelude.{◌≡◌, ℕ, true, List}
use Rattle.sgt_model.specs.declared.entry.Entry.{Entry}
use Rattle.sgt_model.specs.Fates.{live}
use Rattle.sgt_model.specs.Configurations.{Configuration}
use Rattle.sgt_model.specs.Legality.{Legal}
use Rattle.sgt_model.specs.Laws.{InEach}
use Rattle.sgt_progress.specs.Moves.{WaitsFor}

-- an owner is held up: the next event of one of its live transactions may be answered by a wait
pub record HeldUp (s : Configuration) (past : List Entry) (owner : ℕ → ℕ) (o : ℕ) : Type 0 where
  pub t : ℕ
  pub own : owner t ≡ o
  pub on : ℕ
  pub waits : WaitsFor s past t on

-- each owner has one live transaction at most
abbrev pub OneEach : List Entry → (ℕ → ℕ) → Type 0
OneEach past owner = (t u : ℕ) → live past t ≡ true → live past u ≡ true → owner t ≡ owner u → t ≡ u

-- if each owner has one live transaction at most and some transaction is live, then some owner of a live one is not held up
abbrev pub OwnersGoOn : Type 0
OwnersGoOn = InEach (λ s past. (owner : ℕ → ℕ) → OneEach past owner → (t : ℕ) → live past t ≡ true
    → (u : ℕ) × (live past u ≡ true) × (HeldUp s past owner (owner u) → ⊥))

-- with two each, all may be held up
abbrev pub TwoEachMayNot : Type 0
TwoEachMayNot = (s : Configuration) × (past : List Entry) × (owner : ℕ → ℕ) × Legal s past × ((u : ℕ) → live past u ≡ true → HeldUp s past owner (owner u))
