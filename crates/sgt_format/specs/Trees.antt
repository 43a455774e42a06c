-- What trees of JSON spell: a line's tree, and lists.
use Rattle.std.specs.Prelude.{ℕ, ℤ, cond, List, [], ◌∷◌, Option, Some, None, option_map, option_and_then}
use Rattle.std.specs.Str.{is_utf8}
use Rattle.serde_json.specs.Data.{Data, Items, no_items, item}
use Rattle.serde_json.specs.Find.{as_array}
use Rattle.serde_json.specs.Read.{read}
use Rattle.sgt_proc_json.specs.Trees.{whole}

-- the tree of a line, if the line is JSON
abbrev pub tree_of : List ℕ → Option Data
tree_of line = cond (is_utf8 line) (read line) None

-- the trees in a list
abbrev pub listed : Items → List Data
listed no_items = []
listed (item tree items) = tree ∷ listed items

-- the trees in a tree that is a list
abbrev pub list : Data → Option (List Data)
list tree = option_map listed (as_array tree)

-- what each tree spells, unless one spells nothing
abbrev pub each : {A : Type 0} → (Data → Option A) → List Data → Option (List A)
each meaning [] = Some []
each meaning (tree ∷ trees) = option_and_then (λ a. option_map (λ rest. a ∷ rest) (each meaning trees)) (meaning tree)

-- a list of whole numbers
abbrev pub wholes : Data → Option (List ℤ)
wholes tree = option_and_then (each whole) (list tree)
