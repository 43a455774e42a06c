-- Appends that no read saw.
use Rattle.std.specs.Prelude.{◌≢◌, ℕ, List}
use Rattle.sgt_appends.specs.declared.transaction.Status.TheVariants.{Committed}
use Rattle.sgt_appends.specs.declared.transaction.Transaction.{Transaction}
use Rattle.sgt_appends.specs.Indexes.{AppendAt}
use Rattle.sgt_appends.specs.Lists.{Has}
use Rattle.sgt_appends.specs.Precedences.{HasSeen}
use Rattle.sgt_appends.specs.Reads.{IsReadAt}
use Rattle.sgt_appends.specs.Runs.{Ended}
use Rattle.sgt_levels.specs.declared.unseen.Unseen.{Unseen}

-- no committed transaction saw the value at the key
abbrev pub NoneSaw : List Transaction → ℕ → ℕ → Type 0
NoneSaw h k v = (t : ℕ) (seen : List ℕ) → HasSeen h t k seen → ¬ Has seen v

-- transaction t, if it committed, did not see the value at the key at position p
abbrev pub MissesAt : List Transaction → ℕ → ℕ → ℕ → ℕ → Type 0
MissesAt h k v t p = (seen : List ℕ) → Ended h t Committed → IsReadAt h t p k seen → ¬ Has seen v

-- and at no position
abbrev pub MissesIn : List Transaction → ℕ → ℕ → ℕ → Type 0
MissesIn h k v t = (p : ℕ) → MissesAt h k v t p

-- two committed transactions append to one key, and no read saw either value
pub record AreUnseen (h : List Transaction) (u : Unseen) : Type 0 where
  pub differ : u.one ≢ u.other
  pub one_committed : Ended h u.one Committed
  pub other_committed : Ended h u.other Committed
  pub key : ℕ
  pub value : ℕ
  pub next : ℕ
  pub first : AppendAt h u.one u.first key value
  pub second : AppendAt h u.other u.second key next
  pub value_unseen : NoneSaw h key value
  pub next_unseen : NoneSaw h key next
