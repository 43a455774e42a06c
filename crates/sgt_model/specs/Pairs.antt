-- Conflicting accesses, and the edges of the serialization graph (Bernstein, Hadzilacos and Goodman (1987), chapter 2).
-- A scheduler's graph has live transactions too (chapter 4), so an edge is lost if one of the two aborts.
use Rattle.std.specs.Prelude.{◌≡◌, ◌≢◌, ℕ, Bool, true, false, ◌&&◌, ◌||◌, ◌⊎◌, nat_eq, List, [], ◌∷◌, Option, Some, None}
use Rattle.sgt_model.specs.declared.entry.Entry.{Entry}
use Rattle.sgt_model.specs.declared.kind.Kind.{Kind}
use Rattle.sgt_model.specs.declared.kind.Kind.TheVariants.{Look, Store}
use Rattle.sgt_model.specs.Contents.{Key, key_eq}
use Rattle.sgt_model.specs.Accesses.{Access, access_of}
use Rattle.sgt_model.specs.Fates.{aborted}

-- of two accesses of these kinds, at least one is a write
abbrev pub one_stores : Kind → Kind → Bool
one_stores Store _ = true
one_stores Look Store = true
one_stores Look Look = false

-- an access is by t, and conflicts with one of that kind of the key: both are of one key, and at least one is a write
abbrev pub conflicts : Option Access → ℕ → Key → Kind → Bool
conflicts None t k kind = false
conflicts (Some a) t k kind = nat_eq a.by t && (key_eq a.key k && one_stores a.kind kind)

-- t has an access that conflicts with one of that kind of the key
abbrev pub has_conflicting : List Entry → ℕ → Key → Kind → Bool
has_conflicting [] t k kind = false
has_conflicting (e ∷ past) t k kind = conflicts (access_of e) t k kind || has_conflicting past t k kind

-- an access is by u, and t has an earlier one that conflicts with it
abbrev pub FollowsIn : List Entry → Option Access → ℕ → ℕ → Type 0
FollowsIn past None t u = ⊥
FollowsIn past (Some a) t u = (a.by ≡ u) × (has_conflicting past t a.key a.kind ≡ true)

-- an access of t comes before one of u that conflicts with it
abbrev pub Precedes : List Entry → ℕ → ℕ → Type 0
Precedes [] t u = ⊥
Precedes (e ∷ past) t u = FollowsIn past (access_of e) t u ⊎ Precedes past t u

-- an edge: neither transaction is aborted, and the first has an access before a conflicting access of the second.
-- Committed transactions count
pub record Pair (past : List Entry) (t u : ℕ) : Type 0 where
  pub apart : t ≢ u
  pub first_stands : aborted past t ≡ false
  pub second_stands : aborted past u ≡ false
  pub precedes : Precedes past t u
