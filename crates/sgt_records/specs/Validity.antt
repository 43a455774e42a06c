-- What holds of every chain, whatever was done before.
use Rattle.std.specs.Prelude.{ℕ, ℤ, ◌≤◌, filter, length, nat_eq, List, Option, IfSome}
use Rattle.std.specs.List.{All}
use Rattle.sgt_model.specs.Numbers.{IsValue}

-- t has at most one value in the chain
abbrev pub IsOnceIn : ℕ → List (ℕ × Option ℤ) → Type 0
IsOnceIn t chain = length (filter (λ w. nat_eq w.0 t) chain) ≤ 1

-- each writer occurs in the chain once, at most 32 do, and what each has written is a value or none
pub record IsChain (chain : List (ℕ × Option ℤ)) : Type 0 where
  pub once : (t : ℕ) → IsOnceIn t chain
  pub few : length chain ≤ 32
  pub values : All (λ (w : ℕ × Option ℤ). IfSome w.1 IsValue) chain
