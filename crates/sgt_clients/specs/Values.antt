-- Values: whole numbers with a sign, of which the bits are stored.
use Rattle.std.specs.Prelude.{ℕ, ℤ, List}
use Rattle.std.specs.Fmt.{signed_decimal}
use Rattle.std.specs.Int.{cast_signed, w64}

-- the whole number with these 64 bits
abbrev pub whole_of : ℕ → ℤ
whole_of bits = cast_signed w64 bits

-- a value as a report shows it
abbrev pub value_text : ℕ → List ℕ
value_text v = signed_decimal (whole_of v)
