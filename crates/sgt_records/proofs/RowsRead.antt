-- The values of the rows of a database.
use Rattle.std.proofs.Common.{Bool, true, false, cond, List, [], ◌∷◌, Some, IfSome}
use Rattle.sgt_model.specs.Numbers.{IsValue}
use Rattle.sgt_model.specs.Contents.{key_eq}
use Rattle.sgt_model.specs.Databases.{Row, contents_of, HasValues}
use Rattle.sgt_model.specs.StoredValues.{HoldValues}

-- the values of rows are in range
pub rows_values : (rows : List Row) → HasValues rows → HoldValues (contents_of rows)
rows_values [] values k = tt
rows_values (r ∷ rows) values k = go (key_eq r.0 k) (rows_values rows values.1 k)
  where
    go : (b : Bool) → IfSome (contents_of rows k) IsValue → IfSome (cond b (Some r.1) (contents_of rows k)) IsValue
    go true rest = values.0
    go false rest = rest
