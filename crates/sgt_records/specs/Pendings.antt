-- The pending writes: those of the live transactions, of all keys in one list, oldest first.
use Rattle.std.specs.Prelude.{◌≡◌, ℕ, ℤ, ◌≤◌, true, cond, length, List, [], ◌∷◌, Option, IfSome}
use Rattle.std.specs.BTreeMap.{BTreeMap}
use Rattle.std.specs.List.{All}
use Rattle.std.specs.Option.{unwrap_or}
use Rattle.sgt_model.specs.Numbers.{IsValue}
use Rattle.sgt_model.specs.Contents.{Key, key_eq, Contents}
use Rattle.sgt_model.specs.Chains.{value_in}
use Rattle.sgt_records.specs.declared.write.Write.{Write}
use Rattle.sgt_records.specs.Settleds.{has_record}
use Rattle.sgt_records.specs.Validity.{IsOnceIn}

-- a key's chain: each writer and its value, oldest first
abbrev pub chain_in : List Write → Key → List (ℕ × Option ℤ)
chain_in [] k = []
chain_in (w ∷ writes) k = cond (key_eq w.key k) ((w.by, w.value) ∷ chain_in writes k) (chain_in writes k)

-- these values once t's are committed
abbrev pub settled_with : ℕ → List Write → Contents → Contents
settled_with t writes settled k = unwrap_or (value_in t (chain_in writes k)) (settled k)

-- only each transaction's last write of a key is pending; at most 32 are of one key; each is of a value or of none; and there is
-- a record for it
pub record ArePending (records : BTreeMap Key (Option ℤ)) (writes : List Write) : Type 0 where
  pub once : (t : ℕ) (k : Key) → IsOnceIn t (chain_in writes k)
  pub few : (k : Key) → length (chain_in writes k) ≤ 32
  pub recorded : All (λ (w : Write). has_record records w.key ≡ true) writes
  pub in_range : All (λ (w : Write). IfSome w.value IsValue) writes
