-- Keys, records and lists as text. Numbers are decimal, with `-` if they are negative and without leading zeros.
use Rattle.std.specs.Prelude.{ℕ, ℤ, List, [], ◌∷◌, ◌++◌, codes}
use Rattle.std.specs.List.{flat_map}
use Rattle.std.specs.Fmt.{decimal, signed_decimal}
use Rattle.sgt_model.specs.Contents.{Key}

-- a key: its table, a slash, and its number there
abbrev pub key_text : Key → List ℕ
key_text key = decimal key.0 ++ codes "/" ++ signed_decimal key.1

-- a record: its key and its value
abbrev pub record_text : Key → ℤ → List ℕ
record_text key value = key_text key ++ codes " " ++ signed_decimal value

-- each item after a space
abbrev pub each_item : {A : Type 0} → (A → List ℕ) → List A → List ℕ
each_item spelled = flat_map (λ item. codes " " ++ spelled item)

-- each item after a space, or the word `none` after one
abbrev pub items_or_none : {A : Type 0} → (A → List ℕ) → List A → List ℕ
items_or_none spelled [] = codes " none"
items_or_none spelled (item ∷ items) = each_item spelled (item ∷ items)
