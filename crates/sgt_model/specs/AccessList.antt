-- The access list that the test of an access needs: the accesses of live transactions, without values.
use Rattle.std.specs.Prelude.{ℕ, Bool, ◌&&◌, cond, nat_eq, not, filter, List, [], ◌∷◌, ◌++◌, Option, Some, None}
use Rattle.std.specs.List.{list_any}
use Rattle.sgt_model.specs.declared.entry.Entry.{Entry}
use Rattle.sgt_model.specs.declared.kind.Kind.{Kind}
use Rattle.sgt_model.specs.Contents.{Key, key_eq}
use Rattle.sgt_model.specs.Accesses.{Access, access_of}
use Rattle.sgt_model.specs.Pairs.{one_stores}

-- one listed access: its transaction, its key, and whether it is a write
pub record ListedAccess : Type 0 where
  pub by : ℕ
  pub key : Key
  pub kind : Kind

-- an access is listed if its transaction counts
abbrev pub listed_in : (ℕ → Bool) → Option Access → List ListedAccess
listed_in counts None = []
listed_in counts (Some a) = cond (counts a.by) (record { by = a.by; key = a.key; kind = a.kind } ∷ []) []

-- the accesses of the transactions that count, oldest first
abbrev pub access_list : (ℕ → Bool) → List Entry → List ListedAccess
access_list counts [] = []
access_list counts (e ∷ past) = access_list counts past ++ listed_in counts (access_of e)

-- a listed access is by t, and conflicts with an access of that kind of the key
abbrev pub is_conflicting : ℕ → Key → Kind → ListedAccess → Bool
is_conflicting t k kind a = nat_eq a.by t && (key_eq a.key k && one_stores a.kind kind)

-- t has a listed access that conflicts with an access of that kind of the key
abbrev pub lists_conflicting : List ListedAccess → ℕ → Key → Kind → Bool
lists_conflicting list t k kind = list_any (is_conflicting t k kind) list

-- t has a listed access
abbrev pub is_listed : List ListedAccess → ℕ → Bool
is_listed list t = list_any (λ (a : ListedAccess). nat_eq a.by t) list

-- the list without t's accesses
abbrev pub forgotten : ℕ → List ListedAccess → List ListedAccess
forgotten t list = filter (λ (a : ListedAccess). not (nat_eq a.by t)) list
