-- The texts of the items of a history.
use Rattle.std.proofs.Common.{◌≡◌, ℕ, List, map, refl, ap, sym, ◌∙◌, []}
use Rattle.std.specs.Prelude.{Option, Some, None, slice_get}
use Rattle.std.specs.Option.{option_map_or, option_map}
use Rattle.std.proofs.lemmas.Option.{slice_get-map}
use Rattle.sgt_notation.specs.declared.history.History.{History}
use Rattle.sgt_notation.specs.Spellings.{text_at}
use Rattle.sgt_notation.specs.Readings.{texts}

text_of_item : {X : Type 0} (f : X → List ℕ) (xs : List X) (i : ℕ)
    → option_map_or (λ text. text) (slice_get (map f xs) i) [] ≡ option_map_or f (slice_get xs i) []
text_of_item {X} f xs i = ap (λ o. option_map_or (λ text. text) o []) (slice_get-map f xs i) ∙ by (slice_get xs i)
  where
    by : (o : Option X) → option_map_or (λ text. text) (option_map f o) [] ≡ option_map_or f o []
    by None = refl
    by (Some x) = refl

-- the text of an item of a history
pub name_text : (h : History) (i : ℕ) → option_map_or (λ name. name.items) (slice_get h.items.items i) [] ≡ text_at (texts h) i
name_text h i = sym (text_of_item _ h.items.items i)
