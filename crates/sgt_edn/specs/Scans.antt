-- The scan of a text in EDN, and the text in JSON that it writes, byte by byte.
use Rattle.std.specs.Prelude.{◌==◌, ◌||◌, ◌&&◌, ◌+◌, ◌-◌, ◌^◌, ◌++◌, ℕ, Bool, true, false, not, if◌then◌else◌, min, List, [], ◌∷◌, length, take, codes}
use Rattle.sgt_edn.specs.declared.scan.Mode.{Mode}
use Rattle.sgt_edn.specs.declared.scan.Mode.TheVariants.{Between, Token, Literal, Text, Escape, Comment, Hash, Tag}
use Rattle.sgt_edn.specs.declared.scan.Scan.{Scan}
use Rattle.sgt_edn.specs.Bytes.{is_space, is_open, is_close, is_end}
use Rattle.sgt_edn.specs.Tokens.{token_text}

-- at first nothing is open
abbrev pub outside : Scan
outside = record { mode = Between; depth = 0; is_value = false; is_first = true }

-- the same in another mode
abbrev pub in_mode : Mode → Scan → Scan
in_mode mode s = record { mode = mode; depth = s.depth; is_value = s.is_value; is_first = s.is_first }

-- whether the next item of the outer map is a value, after one more item of what is open
abbrev pub turned : Scan → Bool
turned s = if s.depth == 1 then not s.is_value else s.is_value

-- after an item, in this mode
abbrev pub counted : Mode → Scan → Scan
counted mode s = record { mode = mode; depth = s.depth; is_value = turned s; is_first = false }

-- what stands before an item
abbrev pub separator : Scan → List ℕ
separator s = if s.depth == 0 || s.is_first then [] else (if s.depth == 1 && s.is_value then codes ":" else codes ",")

-- after a byte that opens a collection: outside only a brace, 123, opens one
abbrev pub opened : Scan → ℕ → Scan
opened s x =
    if s.depth == 0 && not (x == 123) then in_mode Between s
    else record { mode = Between; depth = min (s.depth + 1) (2 ^ 64 - 1); is_value = not (s.depth == 0) && turned s; is_first = true }

-- the text of such a byte; a map is two objects, so that a brace which closes a vector closes more than is open
abbrev pub open_text : Scan → ℕ → List ℕ
open_text s x =
    separator s ++ (if s.depth == 0 then (if x == 123 then codes "{" else codes " ")
    else (if x == 123 then codes "{\"\":{\"\":[" else codes "["))

-- after a byte that closes a collection
abbrev pub closed : Scan → Scan
closed s = record { mode = Between; depth = s.depth - 1; is_value = s.is_value; is_first = false }

-- the text of such a byte; one that closes nothing is outside of JSON if it is a brace, 125
abbrev pub close_text : Scan → ℕ → List ℕ
close_text s x =
    if s.depth == 0 then (if x == 125 then codes "#" else codes " ")
    else (if x == 125 then (if s.depth == 1 then codes "}" else codes "]}}") else codes "]")

-- after a byte that is in no token, string or comment
abbrev pub after_free : Scan → ℕ → Scan
after_free s x =
    if is_space x || x == 44 then in_mode Between s
    else (if x == 59 then in_mode Comment s
    else (if x == 34 then counted Text s
    else (if x == 35 then in_mode Hash s
    else (if is_open x then opened s x
    else (if is_close x then closed s
    else (if x == 92 then in_mode Literal s else in_mode Token s))))))

-- the token that such a byte starts
abbrev pub free_token : ℕ → List ℕ
free_token x = if is_end x || x == 35 then [] else x ∷ []

-- the text of such a byte
abbrev pub free_text : Scan → ℕ → List ℕ
free_text s x =
    if is_space x then x ∷ []
    else (if x == 44 then codes " "
    else (if x == 34 then separator s ++ codes "\""
    else (if is_open x then open_text s x
    else (if is_close x then close_text s x else []))))

-- after the byte that follows a hash, which starts a set, a tag, a string or a number like ##Inf
abbrev pub after_hash : Scan → ℕ → Scan
after_hash s x =
    if x == 35 then in_mode Token s
    else (if x == 95 then in_mode Between s
    else (if is_end x then after_free s x else in_mode Tag s))

-- the token that such a byte starts: two hashes start one
abbrev pub hash_token : ℕ → List ℕ
hash_token x = if x == 35 then codes "##" else []

-- the text of such a byte; what it leaves out, and a set outside, are not in JSON
abbrev pub hash_text : Scan → ℕ → List ℕ
hash_text s x =
    if x == 95 then codes "#"
    else (if x == 123 && s.depth == 0 then codes "#{" else (if is_end x then free_text s x else []))

-- after one more byte
abbrev pub after_in : Mode → Scan → ℕ → Scan
after_in Between s x = after_free s x
after_in Token s x = if is_end x then after_free (counted Between s) x else s
after_in Literal s x = in_mode Token s
after_in Text s x = if x == 34 then in_mode Between s else (if x == 92 then in_mode Escape s else s)
after_in Escape s x = in_mode Text s
after_in Comment s x = if x == 10 then in_mode Between s else s
after_in Hash s x = after_hash s x
after_in Tag s x = if is_end x then after_free s x else s

-- the open token after one more byte
abbrev pub token_in : Mode → List ℕ → ℕ → List ℕ
token_in Between t x = free_token x
token_in Token t x = if is_end x then [] else t ++ x ∷ []
token_in Literal t x = t ++ x ∷ []
token_in Text t x = t
token_in Escape t x = t
token_in Comment t x = t
token_in Hash t x = hash_token x
token_in Tag t x = t

-- the text of one more byte
abbrev pub text_in : Mode → Scan → List ℕ → ℕ → List ℕ
text_in Between s t x = free_text s x
text_in Token s t x = if is_end x then separator s ++ token_text t ++ free_text (counted Between s) x else []
text_in Literal s t x = []
text_in Text s t x = x ∷ []
text_in Escape s t x = x ∷ []
text_in Comment s t x = if x == 10 then x ∷ [] else []
text_in Hash s t x = hash_text s x
text_in Tag s t x = if is_end x then free_text s x else []

-- the text of a token that is open at the end
abbrev pub end_text : Mode → Scan → List ℕ → List ℕ
end_text Token s t = separator s ++ token_text t
end_text Literal s t = separator s ++ token_text t
end_text mode s t = []

-- the text of these bytes after a scan with this open token
abbrev pub text_from : Scan → List ℕ → List ℕ → List ℕ
text_from s t [] = end_text s.mode s t
text_from s t (x ∷ xs) = text_in s.mode s t x ++ text_from (after_in s.mode s x) (token_in s.mode t x) xs

-- the text in JSON of a text in EDN
abbrev pub json_of_edn : List ℕ → List ℕ
json_of_edn text = text_from outside [] text

-- how many bytes the text of these bytes has after a scan with this open token, without that of a token that they leave open
abbrev pub size_from : Scan → List ℕ → List ℕ → ℕ
size_from s t [] = 0
size_from s t (x ∷ xs) = length (text_in s.mode s t x) + size_from (after_in s.mode s x) (token_in s.mode t x) xs

-- how many bytes in JSON the first k bytes of a text in EDN make
abbrev pub size_of : List ℕ → ℕ → ℕ
size_of text k = size_from outside [] (take k text)

-- the text continues with a keyword
abbrev pub starts_keyword : List ℕ → Bool
starts_keyword [] = false
starts_keyword (x ∷ xs) = if is_space x || x == 44 then starts_keyword xs else x == 58

-- a byte that may stand before the first map: white space, a comma or a bracket
abbrev pub stands_outside : ℕ → Bool
stands_outside x = is_space x || x == 44 || x == 91 || x == 93 || x == 40 || x == 41

-- a hash, a semicolon, or a brace before a keyword
abbrev pub starts_edn : ℕ → List ℕ → Bool
starts_edn x xs = x == 35 || x == 59 || (x == 123 && starts_keyword xs)

-- the first byte that is nothing of those starts EDN
abbrev pub is_edn : List ℕ → Bool
is_edn [] = false
is_edn (x ∷ xs) = if stands_outside x then is_edn xs else starts_edn x xs
