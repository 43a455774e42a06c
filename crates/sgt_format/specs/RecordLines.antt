-- Which record a line adds to an opening's database.
use Rattle.std.specs.Prelude.{ℕ, ℤ, cond, nat_le, ◌&&◌, List, [], ◌∷◌, Option, Some, None, option_and_then, codes}
use Rattle.std.specs.Str.{bytes_eq}
use Rattle.serde_json.specs.Data.{Data}
use Rattle.serde_json.specs.Find.{as_str}
use Rattle.sgt_model.specs.Numbers.{is_value}
use Rattle.sgt_model.specs.Contents.{Key}
use Rattle.sgt_proc_json.specs.Trees.{whole, natural}
use Rattle.sgt_format.specs.Trees.{tree_of, list}
use Rattle.sgt_format.specs.declared.record_line.RecordLine.{RecordLine}
use Rattle.sgt_format.specs.declared.record_line.Record.{Record}

-- ---- lines

-- a word and three whole numbers
abbrev pub of_numbers : List ℕ → ℤ → ℤ → ℤ → Option RecordLine
of_numbers word table id held =
    cond (bytes_eq word (codes "record")) (Some (record { table = table; number = id; value = held })) None

-- `["record", table, number, value]`
abbrev pub record_line_from : List Data → Option RecordLine
record_line_from (word ∷ table ∷ id ∷ held ∷ []) =
    option_and_then (λ w. option_and_then (λ t. option_and_then (λ n. option_and_then (of_numbers w t n) (whole held)) (whole id))
    (whole table)) (as_str word)
record_line_from trees = None

-- the record line that a tree spells, if any
abbrev pub record_line_in : Data → Option RecordLine
record_line_in tree = option_and_then record_line_from (list tree)

-- the record line that a line spells, if any
abbrev pub record_line_of : List ℕ → Option RecordLine
record_line_of line = option_and_then record_line_in (tree_of line)

-- ---- records

-- the key of a table from 0 to 7 and a number there, which is a value
abbrev pub key_of : ℤ → ℤ → Option Key
key_of table id = option_and_then (λ t. cond (nat_le t 7 && is_value id) (Some (t, id)) None) (natural 8 table)

-- the record that a line adds, if its table and number are a key, and its value is one
abbrev pub record_of : RecordLine → Option Record
record_of line = option_and_then (λ k. cond (is_value line.value) (Some (record { key = k; value = line.value })) None)
    (key_of line.table line.number)
