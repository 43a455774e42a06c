-- A text as lines. A newline ends each line; the last line may lack it.
use Rattle.std.specs.Prelude.{◌≡◌, ℕ, Bool, false, ◌||◌, ◌⊎◌, if◌then◌else◌, nat_eq, nat_le, List, [], ◌∷◌, ◌++◌, ◌-◌, length, take, drop, ◌<◌, ◌≤◌, slice_index, Option, None, Some}

-- whether these bytes contain a newline
abbrev pub has_break : List ℕ → Bool
has_break [] = false
has_break (x ∷ xs) = nat_eq x 10 || has_break xs

-- the position of the first newline, if there is one
abbrev pub IsBreak : List ℕ → Option ℕ → Type 0
IsBreak bytes None = has_break bytes ≡ false
IsBreak bytes (Some n) = (n < length bytes) × (slice_index bytes n ≡ 10) × (has_break (take n bytes) ≡ false)

-- the first n bytes are whole lines with their newlines, and no newline comes after them
abbrev pub AreWhole : List ℕ → ℕ → Type 0
AreWhole bytes n = (n ≤ length bytes) × (has_break (drop n bytes) ≡ false) × ((n ≡ 0) ⊎ (slice_index bytes (n - 1) ≡ 10))

-- with this byte at the front of the first line, if there is a line
abbrev pub in_front : ℕ → List (List ℕ) → List (List ℕ)
in_front x [] = []
in_front x (l ∷ ls) = (x ∷ l) ∷ ls

-- the lines that have their newline, without it
abbrev pub whole_lines : List ℕ → List (List ℕ)
whole_lines [] = []
whole_lines (x ∷ xs) = if nat_eq x 10 then [] ∷ whole_lines xs else in_front x (whole_lines xs)

-- the bytes after the last newline
abbrev pub unended : List ℕ → List ℕ
unended [] = []
unended (x ∷ xs) = if has_break (x ∷ xs) then unended xs else x ∷ xs

-- these bytes as a last line; none if they are empty
abbrev pub last_line : List ℕ → List (List ℕ)
last_line [] = []
last_line (x ∷ xs) = (x ∷ xs) ∷ []

-- the lines of a text: the whole ones, and the bytes after the last newline if there are any
abbrev pub lines : List ℕ → List (List ℕ)
lines text = whole_lines text ++ last_line (unended text)

-- whether a line is within its limit of 65,536 bytes
abbrev pub is_short : List ℕ → Bool
is_short line = nat_le (length line) 65536

-- these bytes as a line that is too long; none if they are not
abbrev pub long_line : List ℕ → List (List ℕ)
long_line rest = if is_short rest then [] else rest ∷ []

-- the lines that count, for a text with a limit in bytes: all lines, if the text is within it; else the whole lines
-- within the limit, and the rest of these bytes if it is already too long for a line
abbrev pub counted : ℕ → List ℕ → List (List ℕ)
counted most text =
    if nat_le (length text) most then lines text
    else whole_lines (take most text) ++ long_line (unended (take most text))

-- the lines before the first that is too long
abbrev pub before_long : List (List ℕ) → List (List ℕ)
before_long [] = []
before_long (l ∷ ls) = if is_short l then l ∷ before_long ls else []

-- how splitting a text into lines ends: after its last line, at a line that is too long, or at the limit of the text
pub data Ending : Type 0 where
  AtEnd : Ending
  AtLongLine : Ending
  AtLimit : Ending

-- how it ends if these lines count: at the first that is too long, else by whether the text is within its limit
abbrev pub ending_of : Bool → List (List ℕ) → Ending
ending_of within [] = if within then AtEnd else AtLimit
ending_of within (l ∷ ls) = if is_short l then ending_of within ls else AtLongLine

-- the lines of a text, and how they end
pub record Cut : Type 0 where
  pub given : List (List ℕ)
  pub ending : Ending

-- the lines of a text with a limit in bytes
abbrev pub cut_within : ℕ → List ℕ → Cut
cut_within most text = record {
  given = before_long (counted most text);
  ending = ending_of (nat_le (length text) most) (counted most text);
}
