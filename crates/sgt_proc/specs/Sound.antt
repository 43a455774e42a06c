-- Runs without errors.
use Rattle.std.specs.Prelude.{◌≡◌, ◌≤◌, ℤ, List, length, All, Option, Some, None}
use Rattle.sgt_model.specs.Numbers.{IsValue}
use Rattle.sgt_model.specs.Contents.{Key}
use Rattle.sgt_model.specs.Syntax.{ProcedureText}
use Rattle.sgt_model.specs.Runs.{Run, looks, puts, ends, raises}
use Rattle.sgt_model.specs.Meaning.{run_with}
use Rattle.sgt_proc.specs.Flaws.{IsFlawless}

-- a table from 0 to 7, and a value as its number
abbrev pub IsKey : Key → Type 0
IsKey k = (k.0 ≤ 7) × IsValue k.1

-- what a read may return and what a write may write: none, or a value
abbrev pub IsValueOrNone : Option ℤ → Type 0
IsValueOrNone None = Unit {0}
IsValueOrNone (Some v) = IsValue v

-- whatever the reads return: all keys are valid, each write is of a value or of none, at most 8 values are answered, and a
-- code that is raised is from 1 to 1000, never 0
abbrev pub IsSound : Run → Type 0
IsSound (looks k go) = IsKey k × ((found : Option ℤ) → IsValueOrNone found → IsSound (go found))
IsSound (puts k v rest) = IsKey k × (IsValueOrNone v × IsSound rest)
IsSound (ends answers) = (length answers ≤ 8) × All IsValue answers
IsSound (raises code) = (1 ≤ code) × (code ≤ 1000)

-- a procedure without a flaw is sound, with as many arguments as it takes, which are values
abbrev pub FlawlessIsSound : Type 0
FlawlessIsSound = (p : ProcedureText) (args : List ℤ) → IsFlawless p → length args ≡ p.args → All IsValue args → IsSound (run_with p args)
