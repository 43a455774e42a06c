-- The chain of a key: the last value of each live writer, in the order of these writes, oldest first.
use Rattle.std.specs.Prelude.{ℕ, ℤ, Bool, not, cond, nat_eq, List, [], ◌∷◌, ◌++◌, Option, Some, None}
use Rattle.std.specs.List.{list_any, filter}
use Rattle.sgt_model.specs.declared.entry.Entry.{Entry}
use Rattle.sgt_model.specs.Contents.{Key}
use Rattle.sgt_model.specs.Accesses.{Access, access_of}
use Rattle.sgt_model.specs.Values.{stores}

-- a chain without t's value
abbrev pub chain_without : ℕ → List (ℕ × Option ℤ) → List (ℕ × Option ℤ)
chain_without t chain = filter (λ w. not (nat_eq w.0 t)) chain

-- t's value is replaced or added, and becomes the last one
abbrev pub write_last : ℕ → Option ℤ → List (ℕ × Option ℤ) → List (ℕ × Option ℤ)
write_last t v chain = chain_without t chain ++ (t, v) ∷ []

-- a write, if there is one, enters the chain
abbrev pub store_into : Option Access → List (ℕ × Option ℤ) → List (ℕ × Option ℤ)
store_into None chain = chain
store_into (Some a) chain = write_last a.by a.value chain

-- the last value of each writer that counts, in the order of these writes
abbrev pub chain_of : (ℕ → Bool) → Key → List Entry → List (ℕ × Option ℤ)
chain_of counts k [] = []
chain_of counts k (e ∷ past) = store_into (stores counts k (access_of e)) (chain_of counts k past)

-- t's value in a chain
abbrev pub value_in : ℕ → List (ℕ × Option ℤ) → Option (Option ℤ)
value_in t [] = None
value_in t (w ∷ rest) = cond (nat_eq w.0 t) (Some w.1) (value_in t rest)

-- t has a value in the chain
abbrev pub writes_in : ℕ → List (ℕ × Option ℤ) → Bool
writes_in t chain = list_any (λ w. nat_eq w.0 t) chain
