-- Subsequences of a list.
use Rattle.std.specs.Prelude.{◌≡◌, ◌⊎◌, List, [], ◌∷◌}

-- xs is ys with some items left out
abbrev pub IsSubsequence : {A : Type 0} → List A → List A → Type 0
IsSubsequence xs [] = xs ≡ []
IsSubsequence {A} xs (y ∷ ys) = IsSubsequence xs ys ⊎ ((rest : List A) × (xs ≡ y ∷ rest) × IsSubsequence rest ys)
