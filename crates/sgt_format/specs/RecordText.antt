-- The records of a database as lines of JSON, one for each row.
use Rattle.std.specs.Prelude.{ℕ, List, ◌++◌, codes}
use Rattle.std.specs.Fmt.{decimal, signed_decimal}
use Rattle.std.specs.List.{flat_map}
use Rattle.sgt_model.specs.Contents.{Key}
use Rattle.sgt_model.specs.Databases.{Row}

-- the numbers of a key: its table, a comma, and its number there
abbrev pub key_numbers : Key → List ℕ
key_numbers key = decimal key.0 ++ codes "," ++ signed_decimal key.1

-- the numbers of a row: those of its key, a comma, and its value
abbrev pub row_numbers : Row → List ℕ
row_numbers row = key_numbers row.0 ++ codes "," ++ signed_decimal row.1

-- the line of a row: `["record",table,number,value]`
abbrev pub record_line : Row → List ℕ
record_line row = codes "[\"record\"," ++ row_numbers row ++ codes "]\n"

-- the lines of all rows, in their order
abbrev pub record_lines : List Row → List ℕ
record_lines = flat_map record_line
