-- The objects of an input, and the lines on which they start.
use Rattle.std.specs.Prelude.{◌≡◌, ◌<◌, ◌⊎◌, ◌==◌, ◌||◌, ◌&&◌, ◌+◌, ◌-◌, ◌^◌, ◌++◌, ℕ, Bool, true, false, not, if◌then◌else◌, min, List, [], ◌∷◌, length, take}
use Rattle.sgt_clients.specs.declared.pieces.Nesting.{Nesting}

-- whether the byte may stand between two objects: a space, a tab, a carriage return, a newline, a comma or a bracket
abbrev pub is_between : ℕ → Bool
is_between x = x == 32 || x == 9 || x == 13 || x == 10 || x == 44 || x == 91 || x == 93

-- all bytes may stand between objects
abbrev pub AreBetween : List ℕ → Type 0
AreBetween [] = Unit {0}
AreBetween (x ∷ xs) = (is_between x ≡ true) × AreBetween xs

-- the line after the byte: a newline, 10, ends one; at most 2^64 - 1 are counted
abbrev pub line_after : ℕ → ℕ → ℕ
line_after line x = if x == 10 then min (line + 1) (2 ^ 64 - 1) else line

-- the line after these bytes
abbrev pub line_after_all : ℕ → List ℕ → ℕ
line_after_all line [] = line
line_after_all line (x ∷ xs) = line_after_all (line_after line x) xs

-- at the first byte of an object nothing is open
abbrev pub outside : Nesting
outside = record { depth = 0; in_string = false; escaped = false }

-- the same outside a string: an opening brace, 123, opens one more, and a closing one, 125, closes one
abbrev pub after_brace : Nesting → ℕ → Nesting
after_brace n x =
    if x == 123 then record { depth = n.depth + 1; in_string = false; escaped = false }
    else if x == 125 then record { depth = n.depth - 1; in_string = false; escaped = false }
    else record { depth = n.depth; in_string = false; escaped = false }

-- what is open after one more byte: a quote, 34, opens or closes a string, in which a backslash, 92, escapes the next byte
abbrev pub after : Nesting → ℕ → Nesting
after n x =
    if n.escaped then record { depth = n.depth; in_string = n.in_string; escaped = false }
    else if x == 34 then record { depth = n.depth; in_string = not n.in_string; escaped = false }
    else if n.in_string then record { depth = n.depth; in_string = true; escaped = x == 92 }
    else after_brace n x

-- what is open after these bytes
abbrev pub after_all : Nesting → List ℕ → Nesting
after_all n [] = n
after_all n (x ∷ xs) = after_all (after n x) xs

-- whether nothing is open
abbrev pub is_closed : Nesting → Bool
is_closed n = n.depth == 0 && not n.in_string

-- the bytes start with one that may not stand between objects
abbrev pub Starts : List ℕ → Type 0
Starts [] = ⊥
Starts (x ∷ xs) = is_between x ≡ false

-- The bytes are an object, with the rest of the input after it. It ends after the first byte at which nothing is open, or
-- at the end of the input.
pub record IsObject (bytes rest : List ℕ) : Type 0 where
  pub starts : Starts bytes
  pub goes_on : (k : ℕ) → 0 < k → k < length bytes → is_closed (after_all outside (take k bytes)) ≡ false
  pub ends : (rest ≡ []) ⊎ (is_closed (after_all outside bytes) ≡ true)

-- an object: the line on which it starts, and its bytes
pub record Object : Type 0 where
  pub line : ℕ
  pub bytes : List ℕ

-- the text, whose first byte is on this line, has these objects, with nothing but white space, commas and brackets between
abbrev pub HasObjects : ℕ → List ℕ → List Object → Type 0
HasObjects line text [] = AreBetween text
HasObjects line text (o ∷ os) = (gap : List ℕ) × (rest : List ℕ) × (text ≡ gap ++ (o.bytes ++ rest)) × AreBetween gap
    × (o.line ≡ line_after_all line gap) × IsObject o.bytes rest × HasObjects (line_after_all o.line o.bytes) rest os
