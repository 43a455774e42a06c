-- Sets of indices from 0 to 31 as the bits of numbers, and rows of them.
use Rattle.std.specs.Prelude.{ℕ, Bool, nat_eq, List, [], ◌∷◌, slice_index, cond}
use Rattle.std.proofs.Common.{zero, suc}
use Rattle.std.specs.Int.{bit_at}

-- whether the index is in the set: its bit is 1
unfoldable pub is_set : ℕ → ℕ → Bool
is_set set i = nat_eq (bit_at set i) 1

-- whether index j is in row i
abbrev pub is_bit : List ℕ → ℕ → ℕ → Bool
is_bit rows i j = is_set (slice_index rows i) j

-- the indices of the set below n, falling
unfoldable pub indices_below : ℕ → ℕ → List ℕ
indices_below zero set = []
indices_below (suc n) set = cond (is_set set n) (n ∷ indices_below n set) (indices_below n set)

-- the indices of the set
abbrev pub indices : ℕ → List ℕ
indices set = indices_below 32 set
