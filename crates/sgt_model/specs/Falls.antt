-- Which transactions are aborted in cascade (Bernstein, Hadzilacos and Goodman (1987), chapter 1).
use Rattle.std.specs.Prelude.{◌≡◌, ◌≢◌, ℕ, true, List}
use Rattle.sgt_model.specs.declared.entry.Entry.{Entry}
use Rattle.sgt_model.specs.Paths.{Member, Rising, Reaches}
use Rattle.sgt_model.specs.Fates.{live}
use Rattle.sgt_model.specs.ReadFrom.{ReadFrom}

-- w read from v
abbrev pub Feeds : List Entry → ℕ → ℕ → Type 0
Feeds past v w = ReadFrom past w v

-- `Falls`: those aborted in cascade with t. Exactly the live ones other than t that read from it, directly or through
-- others, rising
pub record Falls (past : List Entry) (t : ℕ) (fell : List ℕ) : Type 0 where
  pub rising : Rising fell
  pub each : (u : ℕ) → Member u fell → (live past u ≡ true) × (u ≢ t) × Reaches (Feeds past) t u
  pub all : (u : ℕ) → live past u ≡ true → u ≢ t → Reaches (Feeds past) t u → Member u fell
