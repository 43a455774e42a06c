-- Whether a transaction has written.
use Rattle.std.specs.Prelude.{ℕ, Bool, false, ◌&&◌, ◌||◌, nat_eq, List, [], ◌∷◌, Option, Some, None}
use Rattle.sgt_model.specs.Accesses.{Access, is_store}

-- one of these accesses is a write
abbrev pub any_store : List Access → Bool
any_store [] = false
any_store (a ∷ accesses) = is_store a.kind || any_store accesses

-- it is a write by this transaction
abbrev pub stores_by : Option Access → ℕ → Bool
stores_by None t = false
stores_by (Some a) t = is_store a.kind && nat_eq a.by t
