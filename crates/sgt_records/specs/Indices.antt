-- The indices of records in a list, by key.
use Rattle.std.specs.Prelude.{◌≡◌, ℕ, ◌<◌, List, length, Some, slice_get}
use Rattle.std.specs.BTreeMap.{BTreeMap, get}
use Rattle.sgt_model.specs.Contents.{Key}
use Rattle.sgt_model.specs.Databases.{key_cmp}
use Rattle.sgt_records.specs.declared.record.Record.{Record}

-- each index is in the list, and is that of one key
pub record AreIndices (indices : BTreeMap Key ℕ) (records : List Record) : Type 0 where
  pub within : (k : Key) (p : ℕ) → get key_cmp indices k ≡ Some p → p < length records
  pub apart : (j k : Key) (p : ℕ) → get key_cmp indices j ≡ Some p → get key_cmp indices k ≡ Some p → j ≡ k

-- each of this many records has a key, whose index is that of the record
pub record AreKeys (indices : BTreeMap Key ℕ) (keys : List Key) (count : ℕ) : Type 0 where
  pub as_many : length keys ≡ count
  pub are_indexed : (k : Key) (p : ℕ) → slice_get keys p ≡ Some k → get key_cmp indices k ≡ Some p
