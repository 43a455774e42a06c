-- A table of records: the index of each by its key.
use Rattle.std.specs.Prelude.{ℕ, Option, slice_get}
use Rattle.std.specs.Option.{option_and_then}
use Rattle.std.specs.BTreeMap.{get}
use Rattle.sgt_model.specs.Contents.{Key}
use Rattle.sgt_model.specs.Databases.{key_cmp}
use Rattle.sgt_records.specs.declared.record.Record.{Record}
use Rattle.sgt_records.specs.declared.table.Table.{Table}

-- the index of a key's record, if it has one
abbrev pub index_in : Table → Key → Option ℕ
index_in table k = get key_cmp table.indices k

-- a key's record, if it has one
abbrev pub record_in : Table → Key → Option Record
record_in table k = option_and_then (slice_get table.records.items) (index_in table k)
