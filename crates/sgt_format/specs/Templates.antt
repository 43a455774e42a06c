-- Templates: texts with marks, each of which stands for the next of some texts.
use Rattle.std.specs.Prelude.{ℕ, ◌==◌, if◌then◌else◌, List, [], ◌∷◌, ◌++◌}

-- what stands before the first mark, `#`
abbrev pub before_mark : List ℕ → List ℕ
before_mark [] = []
before_mark (b ∷ bs) = if b == 35 then [] else (b ∷ before_mark bs)

-- what stands after it
abbrev pub after_mark : List ℕ → List ℕ
after_mark [] = []
after_mark (b ∷ bs) = if b == 35 then bs else after_mark bs

-- the template with the texts in place of its marks, in order
unfoldable pub filled : List ℕ → List (List ℕ) → List ℕ
filled template [] = template
filled template (t ∷ ts) = before_mark template ++ t ++ filled (after_mark template) ts
