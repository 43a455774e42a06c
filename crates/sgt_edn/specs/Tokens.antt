-- The text of a token in JSON. A token is a keyword, a symbol, a number or a character.
use Rattle.std.specs.Prelude.{◌==◌, ◌||◌, ◌&&◌, ◌++◌, ℕ, Bool, true, not, if◌then◌else◌, List, [], ◌∷◌, length, codes, drop}
use Rattle.std.specs.List.{flat_map}
use Rattle.std.proofs.Common.{get_or}
use Rattle.sgt_edn.specs.Bytes.{is_digit}

-- all bytes are digits
abbrev pub are_digits : List ℕ → Bool
are_digits [] = true
are_digits (x ∷ xs) = is_digit x && are_digits xs

-- one digit, or more of which the first is not 0
abbrev pub is_natural : List ℕ → Bool
is_natural t = not (length t == 0) && (length t == 1 || not (get_or t 0 0 == 48)) && are_digits t

-- the token starts with this byte
abbrev pub starts_with : ℕ → List ℕ → Bool
starts_with x t = not (length t == 0) && get_or t 0 0 == x

-- a whole number, perhaps after a minus
abbrev pub is_whole : List ℕ → Bool
is_whole t = if starts_with 45 t then is_natural (drop 1 t) else is_natural t

-- the token is the word nil
abbrev pub is_nil : List ℕ → Bool
is_nil t = length t == 3 && get_or t 0 0 == 110 && get_or t 1 0 == 105 && get_or t 2 0 == 108

-- the token is the word true or the word false
abbrev pub is_truth : List ℕ → Bool
is_truth t = (length t == 4 && get_or t 0 0 == 116 && get_or t 1 0 == 114 && get_or t 2 0 == 117 && get_or t 3 0 == 101)
    || (length t == 5 && get_or t 0 0 == 102 && get_or t 1 0 == 97 && get_or t 2 0 == 108 && get_or t 3 0 == 115 && get_or t 4 0 == 101)

-- a byte in a string: a backslash, 92, stands before a quote, 34, and before a backslash
abbrev pub escaped_byte : ℕ → List ℕ
escaped_byte x = if x == 34 || x == 92 then 92 ∷ x ∷ [] else x ∷ []

-- the bytes as a string
abbrev pub quoted : List ℕ → List ℕ
quoted t = codes "\"" ++ flat_map escaped_byte t ++ codes "\""

-- the token in JSON: a keyword without its colon
abbrev pub token_text : List ℕ → List ℕ
token_text t = if is_nil t then codes "null"
    else (if is_truth t || is_whole t then t
    else (if starts_with 58 t then quoted (drop 1 t) else quoted t))
