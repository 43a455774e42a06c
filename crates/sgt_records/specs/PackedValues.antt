-- A value, or none, as one number.
use Rattle.std.specs.Prelude.{ℤ, negsuc, int_lt, cond, Option, Some, None}

-- the number below all values stands for none
abbrev pub none_number : ℤ
none_number = negsuc 999999999999999

-- what a number stands for
abbrev pub value_of_number : ℤ → Option ℤ
value_of_number n = cond (int_lt n (negsuc 999999999999998)) None (Some n)
