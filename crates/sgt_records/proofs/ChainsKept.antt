-- A write and a removal leave a chain, and the members of a chain are values, or none.
use Rattle.std.proofs.Common.{◌≡◌, ℕ, ◌<◌, ℤ, Bool, true, false, cond, not, nat_eq, List, [], ◌∷◌, length, Option, Some, None, IfSome, arith}
use Rattle.std.proofs.lemmas.List.Elements.{All-nil, All-head, All-tail, All-filter, All-push}
use Rattle.std.specs.List.{All, last_or}
use Rattle.std.specs.Option.{unwrap_or}
use Rattle.sgt_model.specs.Numbers.{IsValue}
use Rattle.sgt_model.specs.Chains.{chain_without, write_last, value_in, writes_in}
use Rattle.sgt_records.specs.Tops.{top_from, top_of, value_of_top}
use Rattle.sgt_records.specs.Validity.{IsChain}
use Rattle.sgt_records.proofs.PendingWrites.{few_filtered, few_written, once_without, once_written}

-- it was a write of a value or of none
abbrev HasValue : ℕ × Option ℤ → Type 0
HasValue w = IfSome w.1 IsValue

pub chain_empty : IsChain []
chain_empty = record { once = λ t. omega arith; few = omega arith; values = All-nil HasValue }

pub chain_written : (t : ℕ) (v : Option ℤ) (c : List (ℕ × Option ℤ)) → IsChain c → IfSome v IsValue
    → (writes_in t c ≡ false → length c < 32) → IsChain (write_last t v c)
chain_written t v c chain value capacity = record {
  once = λ u. once_written t v u c (chain.once u);
  few = few_written t v c chain.few capacity;
  values = All-push HasValue _ _ (All-filter (λ w. not (nat_eq w.0 t)) HasValue c chain.values) value;
}

pub chain_left : (t : ℕ) (c : List (ℕ × Option ℤ)) → IsChain c → IsChain (chain_without t c)
chain_left t c chain = record {
  once = λ u. once_without t u c (chain.once u);
  few = (let le = few_filtered (λ w. not (nat_eq w.0 t)) c in let few = chain.few in omega (arith, le, few));
  values = All-filter (λ w. not (nat_eq w.0 t)) HasValue c chain.values;
}

-- what a writer has in a chain is a value or none
pub value_left : (t : ℕ) (c : List (ℕ × Option ℤ)) → All HasValue c → IfSome (value_in t c) (λ (v : Option ℤ). IfSome v IsValue)
value_left t [] all = tt
value_left t (w ∷ c) all = go (nat_eq w.0 t) (All-head HasValue w c all) (value_left t c (All-tail HasValue w c all))
  where
    go : (b : Bool) → IfSome w.1 IsValue → IfSome (value_in t c) (λ (v : Option ℤ). IfSome v IsValue)
        → IfSome (cond b (Some w.1) (value_in t c)) (λ (v : Option ℤ). IfSome v IsValue)
    go true here rest = here
    go false here rest = rest

-- what a commit makes of the committed value is a value, or none
pub value_settled : (t : ℕ) (c : List (ℕ × Option ℤ)) (before : Option ℤ) → All HasValue c → IfSome before IsValue
    → IfSome (unwrap_or (value_in t c) before) IsValue
value_settled t c before all value = go (value_in t c) (value_left t c all)
  where
    go : (o : Option (Option ℤ)) → IfSome o (λ (v : Option ℤ). IfSome v IsValue) → IfSome (unwrap_or o before) IsValue
    go None h = value
    go (Some v) h = h

-- the last of a chain is a write of a value or of none
last_value : (c : List (ℕ × Option ℤ)) (d : Option (ℕ × Option ℤ)) → All HasValue c → IfSome d HasValue → IfSome (last_or d c) HasValue
last_value [] d all here = here
last_value (w ∷ c) d all here = last_value c (Some w) (All-tail HasValue w c all) (All-head HasValue w c all)

-- what a read finds is a value
pub top_value : (c : List (ℕ × Option ℤ)) (committed : Option ℤ) → IsChain c → IfSome committed IsValue
    → IfSome (value_of_top (top_of c committed)) IsValue
top_value c committed chain value = go (last_or None c) committed (last_value c None chain.values tt) value
  where
    go : (last : Option (ℕ × Option ℤ)) (below : Option ℤ) → IfSome last HasValue → IfSome below IsValue
        → IfSome (value_of_top (top_from last below)) IsValue
    go (Some w) below h v = h
    go None (Some x) h v = v
    go None None h v = tt
