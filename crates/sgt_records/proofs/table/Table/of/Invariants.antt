use Rattle.std.proofs.Common.{◌≡◌, length, map, take}
use Rattle.std.specs.Vec.{vec_len, vec_capacity}
use Rattle.sgt_records.proofs.RowIndices.{places, row_key, row_record}
use Rattle.sgt_records.proofs.table.Table.of.Given as goal

-- the records, keys and places of the rows so far
abbrev pub invariant-loop-index : goal.invariant-loop-index
invariant-loop-index l = record {
  records : l.records.items ≡ map row_record (take l.index l.rows);
  keys : l.keys.items ≡ map row_key (take l.index l.rows);
  listed : l.places.items ≡ places 0 (take l.index l.rows);
  capacity : vec_capacity l.records ≡ length l.rows;
  capacity_for_keys : vec_capacity l.keys ≡ length l.rows;
  capacity_for_places : vec_capacity l.places ≡ length l.rows;
  count : vec_len l.records ≡ l.index;
  count_of_keys : vec_len l.keys ≡ l.index;
  count_of_places : vec_len l.places ≡ l.index;
}
