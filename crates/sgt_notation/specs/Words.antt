-- A text as words, each with the number of its line. White space and comments separate them.
use Rattle.std.specs.Prelude.{ℕ, ◌+◌, ◌==◌, Bool, true, false, ◌||◌, if◌then◌else◌, List, [], ◌∷◌}

-- a word and the number of its line, from 1
pub record Word : Type 0 where
  pub line : ℕ
  pub text : List ℕ

-- the newline
abbrev pub is_break : ℕ → Bool
is_break b = b == 10

-- a space, a tab or a carriage return
abbrev pub is_space : ℕ → Bool
is_space b = b == 32 || (b == 9 || b == 13)

-- a `#`, which starts a comment
abbrev pub is_hash : ℕ → Bool
is_hash b = b == 35

-- a byte that separates words
abbrev pub parts_words : ℕ → Bool
parts_words b = is_break b || (is_space b || is_hash b)

-- with this byte before the first word
abbrev pub in_front : ℕ → List Word → List Word
in_front b [] = []
in_front b (w ∷ ws) = record { line = w.line; text = b ∷ w.text } ∷ ws

-- the byte as the start of the word that continues after it, or as a word of its own
abbrev pub begin_word : ℕ → ℕ → List ℕ → List Word → List Word
begin_word n b [] later = record { line = n; text = b ∷ [] } ∷ later
begin_word n b (c ∷ cs) later = if parts_words c then record { line = n; text = b ∷ [] } ∷ later else in_front b later

-- the words of bytes on line n and later lines, which start in a comment or not
abbrev pub words : Bool → ℕ → List ℕ → List Word
words comment n [] = []
words comment n (b ∷ bs) =
    if is_break b then words false (n + 1) bs
    else if comment || is_hash b then words true n bs
    else if is_space b then words false n bs
    else begin_word n b bs (words false n bs)

-- the words of a text
abbrev pub words_of : List ℕ → List Word
words_of text = words false 1 text
