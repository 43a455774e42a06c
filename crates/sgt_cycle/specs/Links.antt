-- Links between numbers: a list of pairs, each from its first number to its second.
use Rattle.std.specs.Prelude.{ℕ, Bool, ◌||◌, ◌&&◌, nat_eq, List}
use Rattle.std.specs.List.{list_any}

-- whether a link leads from a to b
abbrev pub is_link : List (ℕ × ℕ) → ℕ → ℕ → Bool
is_link links a b = list_any (λ l. nat_eq l.0 a && nat_eq l.1 b) links

-- whether a link leads from the number, or to it
abbrev pub is_end : List (ℕ × ℕ) → ℕ → Bool
is_end links t = list_any (λ l. nat_eq l.0 t || nat_eq l.1 t) links

-- whether the number is the source, or an end of a link
abbrev pub occurs : List (ℕ × ℕ) → ℕ → ℕ → Bool
occurs links source t = nat_eq source t || is_end links t
