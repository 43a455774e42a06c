-- Record lines that are written of records are read as the same records.
use Rattle.std.specs.Prelude.{◌≡◌, ◌≤◌, ℕ, List, ◌++◌, Some, codes}
use Rattle.sgt_model.specs.Databases.{Row}
use Rattle.sgt_model.specs.Numbers.{IsValue}
use Rattle.sgt_format.specs.RecordText.{record_line}
use Rattle.sgt_format.specs.RecordLines.{record_line_of, record_of}
use Rattle.sgt_format.specs.declared.record_line.RecordLine.{RecordLine}

-- for each row with a table from 0 to 7 and a number and a value that are values: the line without its end is a record
-- line, and it adds that row's value under its key
abbrev pub WrittenRecordsAreRead : Type 0
WrittenRecordsAreRead = (row : Row) → row.0.0 ≤ 7 → IsValue row.0.1 → IsValue row.1
    → (line : List ℕ) × (record_line row ≡ line ++ codes "\n") × (said : RecordLine) × (record_line_of line ≡ Some said)
    × (record_of said ≡ Some (record { key = row.0; value = row.1 }))
