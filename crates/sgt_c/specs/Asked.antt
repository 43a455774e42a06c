-- The calls that C may make.
use Rattle.std.specs.Prelude.{ℕ, ℤ, ◌≤◌, ◌<◌, ◌^◌, length, List}
use Rattle.sgt_model.specs.Numbers.{IsValue}

-- the procedure number fits 16 bits, and there are at most 4 arguments
abbrev pub IsCall : ℕ → List ℤ → Type 0
IsCall procedure args = (procedure < 2 ^ 16) × (length args ≤ 4)

-- the table and the number name a record
abbrev pub IsRecord : ℕ → ℤ → Type 0
IsRecord table number = (table ≤ 7) × IsValue number
