-- A database as its rows, in the order of their keys.
use Rattle.std.specs.Prelude.{◌≡◌, ℕ, zero, suc, ℤ, Bool, true, false, cond, List, [], ◌∷◌, Some, None, Result, Ok, Err, slice_get}
use Rattle.std.specs.declared.cmp.Ordering.{Ordering}
use Rattle.std.specs.Ordering.{nat_cmp, int_cmp, on, then_cmp, is_lt}
use Rattle.sgt_model.specs.Numbers.{IsValue}
use Rattle.sgt_model.specs.Contents.{Key, key_eq, Contents}

-- a key and its value
abbrev pub Row : Type 0
Row = Key × ℤ

-- the contents of rows: the value of each key that has a row, and none for any other key
abbrev pub contents_of : List Row → Contents
contents_of [] k = None
contents_of (r ∷ rows) k = cond (key_eq r.0 k) (Some r.1) (contents_of rows k)

-- the order of keys: by table, then by number
abbrev pub key_cmp : Key → Key → Ordering
key_cmp = then_cmp (on (λ k. k.0) nat_cmp) (on (λ k. k.1) int_cmp)

-- the first key comes before the second
abbrev pub key_lt : Key → Key → Bool
key_lt a b = is_lt (key_cmp a b)

-- as many first rows come before the key, and the next row, if any, does not: the key's index, if rows are by key
abbrev pub IsRowIndex : Key → List Row → ℕ → Type 0
IsRowIndex k [] zero = Unit {0}
IsRowIndex k (r ∷ rows) zero = key_lt r.0 k ≡ false
IsRowIndex k [] (suc n) = ⊥
IsRowIndex k (r ∷ rows) (suc n) = (key_lt r.0 k ≡ true) × IsRowIndex k rows n

-- the index of the key's row, or else the index at which it would be inserted
abbrev pub IsFound : Key → List Row → Result ℕ ℕ → Type 0
IsFound k rows (Ok n) = IsRowIndex k rows n × (v : ℤ) × (slice_get rows n ≡ Some (k, v))
IsFound k rows (Err n) = IsRowIndex k rows n × ((r : Row) → slice_get rows n ≡ Some r → key_eq r.0 k ≡ false)

-- the key comes before that of each row
abbrev pub IsBelow : Key → List Row → Type 0
IsBelow k [] = Unit {0}
IsBelow k (r ∷ rows) = (key_lt k r.0 ≡ true) × IsBelow k rows

-- each row's key comes before those of all rows after it
abbrev pub IsByKey : List Row → Type 0
IsByKey [] = Unit {0}
IsByKey (r ∷ rows) = IsBelow r.0 rows × IsByKey rows

-- each row has a value
abbrev pub HasValues : List Row → Type 0
HasValues [] = Unit {0}
HasValues (r ∷ rows) = IsValue r.1 × HasValues rows
