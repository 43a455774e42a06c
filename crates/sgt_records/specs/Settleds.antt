-- The committed values, as records by key.
use Rattle.std.specs.Prelude.{◌≡◌, ℤ, Bool, true, Option}
use Rattle.std.specs.Option.{is_some, option_flatten}
use Rattle.std.specs.BTreeMap.{BTreeMap, get}
use Rattle.sgt_model.specs.Contents.{Key, Contents}
use Rattle.sgt_model.specs.Databases.{key_cmp}

-- the committed value of each key; a key whose record is empty or missing has none
abbrev pub settled_in : BTreeMap Key (Option ℤ) → Contents
settled_in records k = option_flatten (get key_cmp records k)

-- the key has a record, perhaps an empty one
abbrev pub has_record : BTreeMap Key (Option ℤ) → Key → Bool
has_record records k = is_some (get key_cmp records k)

-- no record is lost
abbrev pub KeepsRecords : BTreeMap Key (Option ℤ) → BTreeMap Key (Option ℤ) → Type 0
KeepsRecords old new = (k : Key) → has_record old k ≡ true → has_record new k ≡ true
