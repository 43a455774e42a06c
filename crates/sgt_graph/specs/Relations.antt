-- A relation between 32 indices as rows, and as columns.
use Rattle.std.specs.Prelude.{◌≡◌, ℕ, List, length}
use Rattle.sgt_cycle.specs.Indices.{is_bit}

-- there are 32 rows, and the columns are the transposed rows
pub record IsRelation (rows columns : List ℕ) : Type 0 where
  pub size : length rows ≡ 32
  pub transposed : (i j : ℕ) → is_bit columns j i ≡ is_bit rows i j
