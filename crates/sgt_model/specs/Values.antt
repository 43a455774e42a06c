-- The values that a history leaves: the one that a read returns, and the committed one. A read may return what is not
-- committed. An abort removes the values of the transactions that it ends, and no others: no before image is written back.
use Rattle.std.specs.Prelude.{ℕ, ℤ, Bool, not, ◌&&◌, cond, List, [], ◌∷◌, Option, Some, None}
use Rattle.std.specs.Option.{option_or}
use Rattle.sgt_model.specs.declared.entry.Entry.{Entry}
use Rattle.sgt_model.specs.Contents.{Key, key_eq, Contents}
use Rattle.sgt_model.specs.Accesses.{Access, is_store, access_of}
use Rattle.sgt_model.specs.Fates.{aborted, committed}

-- an access, if it is a write of the key by a transaction that counts
abbrev pub stores : (ℕ → Bool) → Key → Option Access → Option Access
stores counts k None = None
stores counts k (Some a) = cond (is_store a.kind && (key_eq a.key k && counts a.by)) (Some a) None

-- the newest write of the key by a transaction that counts
abbrev pub newest_store : (ℕ → Bool) → Key → List Entry → Option Access
newest_store counts k [] = None
newest_store counts k (e ∷ past) = option_or (stores counts k (access_of e)) (newest_store counts k past)

-- the value of a write, or else this one
abbrev pub value_or : Option Access → Option ℤ → Option ℤ
value_or None opening = opening
value_or (Some a) opening = a.value

-- what a read of the key returns: the newest value that is not undone, committed or not
abbrev pub visible : Contents → List Entry → Key → Option ℤ
visible opening past k = value_or (newest_store (λ t. not (aborted past t)) k past) (opening k)

-- `settled`: the committed value, which is the newest by a transaction that has committed
abbrev pub settled : Contents → List Entry → Contents
settled opening past k = value_or (newest_store (committed past) k past) (opening k)
