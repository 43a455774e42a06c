-- Whole numbers in trees of JSON.
use Rattle.std.specs.Prelude.{ℕ, ◌^◌, ℤ, pos, negsuc, nat_lt, cond, Option, Some, None, option_and_then}
use Rattle.serde_json.specs.Data.{Data}
use Rattle.serde_json.specs.Find.{as_i64, as_number}

-- a whole number of 64 bits with its sign
abbrev pub whole : Data → Option ℤ
whole tree = option_and_then as_i64 (as_number tree)

-- a whole number of this many bits, without a sign
abbrev pub natural : ℕ → ℤ → Option ℕ
natural bits (pos n) = cond (nat_lt n (2 ^ bits)) (Some n) None
natural bits (negsuc n) = None
