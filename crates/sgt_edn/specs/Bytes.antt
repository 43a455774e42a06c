-- The kinds of bytes.
use Rattle.std.specs.Prelude.{◌==◌, ◌||◌, ℕ, Bool}

-- a space, a tab, a carriage return or a newline
abbrev pub is_space : ℕ → Bool
is_space x = x == 32 || x == 9 || x == 13 || x == 10

-- a byte that opens a collection: { [ (
abbrev pub is_open : ℕ → Bool
is_open x = x == 123 || x == 91 || x == 40

-- a byte that closes one: } ] )
abbrev pub is_close : ℕ → Bool
is_close x = x == 125 || x == 93 || x == 41

-- a byte that ends a token: white space, a comma, a quote, a semicolon, or a byte of a collection
abbrev pub is_end : ℕ → Bool
is_end x = is_space x || x == 44 || x == 34 || x == 59 || is_open x || is_close x

-- a digit
abbrev pub is_digit : ℕ → Bool
is_digit x = x == 48 || x == 49 || x == 50 || x == 51 || x == 52 || x == 53 || x == 54 || x == 55 || x == 56 || x == 57
