-- Lists in JSON.
use Rattle.std.specs.Prelude.{ℕ, List, [], ◌∷◌, ◌++◌, codes}
use Rattle.std.specs.List.{flat_map}

-- an item after a comma
abbrev pub next_item : {A : Type 0} → (A → List ℕ) → A → List ℕ
next_item spelled x = codes "," ++ spelled x

-- items separated by commas
abbrev pub items_text : {A : Type 0} → (A → List ℕ) → List A → List ℕ
items_text spelled [] = []
items_text spelled (x ∷ xs) = spelled x ++ flat_map (next_item spelled) xs

-- a list of items
abbrev pub list_text : {A : Type 0} → (A → List ℕ) → List A → List ℕ
list_text spelled xs = codes "[" ++ items_text spelled xs ++ codes "]"

-- texts one after another
abbrev pub joined : List (List ℕ) → List ℕ
joined [] = []
joined (x ∷ xs) = x ++ joined xs
