-- Records by key, each with its pending writes: inline, or as a chain in a slab.
use Rattle.std.specs.Prelude.{◌≡◌, ◌≢◌, ℕ, ◌<◌, ℤ, true, false, List, [], ◌∷◌, length, Option, Some, None, ◌⊎◌}
use Rattle.std.specs.Option.{is_some, option_and_then}
use Rattle.slab.specs.Slab.{Slab}
use Rattle.slab.specs.Slab as slab
use Rattle.sgt_model.specs.Contents.{Key, Contents}
use Rattle.sgt_model.specs.StoredValues.{HoldValues}
use Rattle.sgt_records.specs.declared.chain.Chain.{Chain}
use Rattle.sgt_records.specs.declared.record.Record.{Record}
use Rattle.sgt_records.specs.declared.written.Written.{Written}
use Rattle.sgt_records.specs.declared.written.Written.TheVariants.{Nothing, Once, InSlot}
use Rattle.sgt_records.specs.Validity.{IsChain}

-- the writes of a chain; a missing chain has none
abbrev pub writes_of : Option Chain → List (ℕ × Option ℤ)
writes_of None = []
writes_of (Some chain) = chain.writes.items

-- what is written, oldest first
abbrev pub chain_at : Slab Chain → Written → List (ℕ × Option ℤ)
chain_at chains Nothing = []
chain_at chains (Once t v) = (t, v) ∷ []
chain_at chains (InSlot slot) = writes_of (slab.get chains slot)

-- its slot, if it has one
abbrev pub slot_in : Written → Option ℕ
slot_in Nothing = None
slot_in (Once t v) = None
slot_in (InSlot slot) = Some slot

-- the slot, if there is one, holds a chain
abbrev pub IsHeld : Slab Chain → Option ℕ → Type 0
IsHeld chains slot = (p : ℕ) → slot ≡ Some p → is_some (slab.get chains p) ≡ true

-- the chain at the slot, if there is one, holds a write
abbrev pub IsFilled : Slab Chain → Option ℕ → Type 0
IsFilled chains slot = (p : ℕ) → slot ≡ Some p → 0 < length (writes_of (slab.get chains p))

-- one record's chain has changed. If it still exists, it holds a write, and is in its old slot or in one that was free. A slot
-- that it leaves is freed, and the other chains are unchanged
pub record Moves (old new : Slab Chain) (from to : Option ℕ) : Type 0 where
  pub held : IsHeld new to
  pub filled : IsFilled new to
  pub free : (p : ℕ) → to ≡ Some p → (from ≡ Some p) ⊎ (slab.get old p ≡ None)
  pub given_back : (p : ℕ) → from ≡ Some p → to ≢ Some p → is_some (slab.get new p) ≡ false
  pub others : (p : ℕ) → from ≢ Some p → to ≢ Some p → slab.get new p ≡ slab.get old p

-- the pending writes of a record; a missing record has none
abbrev pub written_by : Option Record → Written
written_by None = Nothing
written_by (Some r) = r.written

-- the slot of a key's chain, if it has one
abbrev pub slot_of : (Key → Option Record) → Key → Option ℕ
slot_of records k = slot_in (written_by (records k))

-- a key's chain: each writer and its value, oldest first
abbrev pub key_chain : (Key → Option Record) → Slab Chain → Key → List (ℕ × Option ℤ)
key_chain records chains k = chain_at chains (written_by (records k))

-- a key's committed value; a key without a record, or whose record has no value, has none
abbrev pub committed_of : (Key → Option Record) → Contents
committed_of records k = option_and_then (λ (r : Record). r.committed) (records k)

-- each slot is that of one key's chain, which holds a write, and no other slot is taken
pub record IsIndex (records : Key → Option Record) (chains : Slab Chain) : Type 0 where
  pub held : (k : Key) → IsHeld chains (slot_of records k)
  pub filled : (k : Key) → IsFilled chains (slot_of records k)
  pub owned : (p : ℕ) → ((k : Key) → slot_of records k ≢ Some p) → is_some (slab.get chains p) ≡ false
  pub apart : (j k : Key) (p : ℕ) → slot_of records j ≡ Some p → slot_of records k ≡ Some p → j ≡ k
  pub are_chains : (k : Key) → IsChain (key_chain records chains k)
  pub in_range : HoldValues (committed_of records)
