-- The lines of a database, one for each row.
use Rattle.std.specs.Prelude.{ℕ, List, ◌++◌, codes}
use Rattle.std.specs.List.{flat_map}
use Rattle.sgt_model.specs.Databases.{Row}
use Rattle.sgt_format.specs.Decimals.{record_text}

-- a row: its key and its value
abbrev pub row_text : Row → List ℕ
row_text row = record_text row.0 row.1 ++ codes "\n"

-- all rows, in their order
abbrev pub database_text : List Row → List ℕ
database_text = flat_map row_text
