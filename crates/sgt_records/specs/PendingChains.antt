-- The pending writes of each key are a chain: the proof of a law of the records.
use Rattle.std.specs.Prelude.{ℕ, ℤ, Bool, true, false, cond, List, [], ◌∷◌, Option, IfSome}
use Rattle.std.specs.BTreeMap.{BTreeMap}
use Rattle.std.specs.List.{All}
use Rattle.std.proofs.lemmas.List.Elements.{All-nil, All-cons, All-head, All-tail}
use Rattle.sgt_model.specs.Numbers.{IsValue}
use Rattle.sgt_model.specs.Contents.{Key, key_eq}
use Rattle.sgt_records.specs.declared.write.Write.{Write}
use Rattle.sgt_records.specs.Pendings.{chain_in, ArePending}
use Rattle.sgt_records.specs.Validity.{IsChain}

-- if all writes are of values or of none, so is a chain of them
chain_values : (writes : List Write) → All (λ (w : Write). IfSome w.value IsValue) writes → (k : Key) → All (λ (w : ℕ × Option ℤ). IfSome w.1 IsValue) (chain_in writes k)
chain_values [] values k = All-nil (λ (x : ℕ × Option ℤ). IfSome x.1 IsValue)
chain_values (w ∷ writes) values k = go (key_eq w.key k) (All-head (λ (x : Write). IfSome x.value IsValue) w writes values) (chain_values writes (All-tail (λ (x : Write). IfSome x.value IsValue) w writes values) k)
  where
    go : (b : Bool) → IfSome w.value IsValue → All (λ (w : ℕ × Option ℤ). IfSome w.1 IsValue) (chain_in writes k) → All (λ (w : ℕ × Option ℤ). IfSome w.1 IsValue) (cond b ((w.by, w.value) ∷ chain_in writes k) (chain_in writes k))
    go true here rest = All-cons (λ (x : ℕ × Option ℤ). IfSome x.1 IsValue) (w.by, w.value) (chain_in writes k) here rest
    go false here rest = rest

-- the pending writes of a key are a chain
pub pending_chains : (records : BTreeMap Key (Option ℤ)) (writes : List Write) → ArePending records writes → (k : Key) → IsChain (chain_in writes k)
pending_chains records writes are k = record { once = λ t. are.once t k; few = are.few k; values = chain_values writes are.in_range k }
