-- The transactions that still stand while a cascading abort is followed from reader to reader.
use Rattle.std.specs.Prelude.{ℕ, Bool, cond, ◌&&◌, nat_eq, nat_lt, List, [], ◌∷◌}
use Rattle.std.specs.List.{list_any}

-- whether the transaction is one of those that stand
abbrev pub stands : List ℕ → ℕ → Bool
stands standing t = list_any (λ u. nat_eq u t) standing

-- whether v has read from u
abbrev pub has_read : List (ℕ × ℕ) → ℕ → ℕ → Bool
has_read read_from u v = list_any (λ p. nat_eq p.0 u && nat_eq p.1 v) read_from

-- a rising list with t among its members
abbrev pub with_member : ℕ → List ℕ → List ℕ
with_member t [] = t ∷ []
with_member t (u ∷ rest) = cond (nat_lt u t) (u ∷ with_member t rest) (cond (nat_eq u t) (u ∷ rest) (t ∷ u ∷ rest))
