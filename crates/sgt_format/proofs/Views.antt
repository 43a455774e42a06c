-- The trees of lines and lists, as the definitions see them.
use Rattle.std.proofs.Common.{◌≡◌, ℕ, Bool, true, false, List, [], ◌∷◌, Some, None, refl, ap, ◌∙◌}
use Rattle.std.specs.Prelude.{IsUtf8, map, cond}
use Rattle.std.specs.Str.{is_utf8}
use Rattle.std.proofs.lemmas.Str.{is_utf8-from_IsUtf8, IsUtf8-from_is_utf8}
use Rattle.serde_json.specs.Data.{Data}
use Rattle.serde_json.specs.Read.{read}
use Rattle.serde_json.specs.View.{view, items_view}
use Rattle.serde_json.specs.declared.value.Value.{Value}
use Rattle.sgt_format.specs.Trees.{tree_of, listed}

-- a text that is read as a tree has that tree
pub tree_of_read : (line : List ℕ) (tree : Data) → IsUtf8 line → read line ≡ Some tree → tree_of line ≡ Some tree
tree_of_read line tree text found = ap (λ b. cond b (read line) None) (is_utf8-from_IsUtf8 line text) ∙ found

-- a line that is no text, or is read as nothing, has no tree
pub tree_of_refused : (line : List ℕ) → (IsUtf8 line → read line ≡ None) → tree_of line ≡ None
tree_of_refused line none = by_test (is_utf8 line) refl
  where
    by_test : (b : Bool) → is_utf8 line ≡ b → tree_of line ≡ None
    by_test true is = ap (λ b. cond b (read line) None) is ∙ none (IsUtf8-from_is_utf8 line is)
    by_test false is = ap (λ b. cond b (read line) None) is

-- the trees in a list of values
pub listed_items : (values : List Value) → listed (items_view values) ≡ map view values
listed_items [] = refl
listed_items (v ∷ values) = ap (λ trees. view v ∷ trees) (listed_items values)
