-- The numbers of the entries of a session's receipts.
use Rattle.std.specs.Prelude.{ℕ, zero, suc, ◌+◌, Bool, List, [], ◌∷◌, ◌++◌, cond}

-- numbers, counting up from the first one
abbrev pub counted : ℕ → ℕ → List ℕ
counted first zero = []
counted first (suc n) = counted first n ++ (first + n) ∷ []

-- all that are listed, or else as many as are counted, from the first one on
abbrev pub numbers_of : Bool → List ℕ → ℕ → ℕ → List ℕ
numbers_of is_listed listed first count = cond is_listed listed (counted first count)

-- what callers see: the numbers, and for how many there is memory
pub record NumbersView : Type 0 where
  pub items : List ℕ
  pub capacity : ℕ
