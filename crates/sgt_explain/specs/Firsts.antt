-- The first number for which something holds.
use Rattle.std.specs.Prelude.{ℕ, ◌<◌, Option, Some, None}

-- it holds for no number below the end
abbrev pub NoneBelow : (ℕ → Type 0) → ℕ → Type 0
NoneBelow P end = (m : ℕ) → m < end → P m → ⊥

-- n is the first number below the end for which it holds
pub record IsFirst (P : ℕ → Type 0) (end n : ℕ) : Type 0 where
  pub below : n < end
  pub holds : P n
  pub first : NoneBelow P n

-- the first number below the end for which it holds, or none if there is none
abbrev pub FirstOrNone : (ℕ → Type 0) → ℕ → Option ℕ → Type 0
FirstOrNone P end None = NoneBelow P end
FirstOrNone P end (Some n) = IsFirst P end n
