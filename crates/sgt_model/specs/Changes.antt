-- What an event does to the state.
use Rattle.std.specs.Prelude.{◌≡◌, ◌≢◌, ℕ, ◌+◌, ℤ, Bool, true, false, not, ◌&&◌, ◌||◌, cond, ◌⊎◌, ◌↔◌, nat_eq, List, [], ◌∷◌, ◌++◌, Some, Option}
use Rattle.std.specs.List.{list_any, filter}
use Rattle.std.specs.Option.{unwrap_or}
use Rattle.sgt_model.specs.declared.reply.Cause.{Cause}
use Rattle.sgt_model.specs.declared.reply.Fate.TheVariants as fate
use Rattle.sgt_model.specs.declared.kind.Kind.{Kind}
use Rattle.sgt_model.specs.declared.kind.Kind.TheVariants.{Look, Store}
use Rattle.sgt_model.specs.Contents.{Key, key_eq}
use Rattle.sgt_model.specs.Left.{Left, after_look, after_store}
use Rattle.sgt_model.specs.Chains.{write_last, value_in}
use Rattle.sgt_model.specs.State.{State, Has}
use Rattle.sgt_model.specs.Blocks.{IsRival}
use Rattle.sgt_model.specs.Found.{SourceIs, top, found}

-- an access of t is recorded, which its procedure wanted and the verdict allowed
pub record Notes (t : ℕ) (k : Key) (kind : Kind) (before after : State) : Type 0 where
  pub live : after.live ≡ before.live
  pub nodes : (u : ℕ) → after.nodes u ≡ before.nodes u
  pub pairs : (u v : ℕ) → (after.pairs u v ≡ true) ↔ ((before.pairs u v ≡ true) ⊎ ((v ≡ t) × IsRival before t k kind u))
  pub accesses : after.accesses ≡ before.accesses ++ record { by = t; key = k; kind = kind } ∷ []
  pub settled : (j : Key) → after.settled j ≡ before.settled j
  pub fates : (u : ℕ) → after.fates u ≡ before.fates u
  pub start_count : after.start_count ≡ before.start_count
  pub left : (u : ℕ) → u ≢ t → after.left u ≡ before.left u

-- t reads the key
pub record LooksAt (t : ℕ) (k : Key) (before after : State) : Type 0 where
  pub notes : Notes t k Look before after
  pub chain : (j : Key) → after.chain j ≡ before.chain j
  pub read_from : (u v : ℕ) → Has after.read_from u v ↔ (Has before.read_from u v ⊎ ((v ≡ t) × (u ≢ t) × SourceIs (top before k) u))
  pub own_left : after.left t ≡ after_look (found before k) (before.left t)

-- t writes a value
pub record StoresInto (t : ℕ) (k : Key) (v : Option ℤ) (before after : State) : Type 0 where
  pub notes : Notes t k Store before after
  pub chain : (j : Key) → after.chain j ≡ cond (key_eq k j) (write_last t v (before.chain j)) (before.chain j)
  pub read_from : (u w : ℕ) → Has after.read_from u w ↔ Has before.read_from u w
  pub own_left : after.left t ≡ after_store (before.left t)

-- a transaction is started, with the next number; its remainder is its whole procedure
pub record Starts (at_start : Left) (before after : State) : Type 0 where
  pub live : after.live ≡ before.live ++ before.start_count ∷ []
  pub nodes : (u : ℕ) → after.nodes u ≡ (before.nodes u || nat_eq u before.start_count)
  pub pairs : (u v : ℕ) → after.pairs u v ≡ before.pairs u v
  pub accesses : after.accesses ≡ before.accesses
  pub chain : (k : Key) → after.chain k ≡ before.chain k
  pub settled : (k : Key) → after.settled k ≡ before.settled k
  pub read_from : (u v : ℕ) → Has after.read_from u v ↔ Has before.read_from u v
  pub fates : (u : ℕ) → after.fates u ≡ before.fates u
  pub start_count : after.start_count ≡ before.start_count + 1
  pub left : (u : ℕ) → u ≢ before.start_count → after.left u ≡ before.left u
  pub own_left : after.left before.start_count ≡ at_start

-- some transactions leave each layer
pub record Removes (gone : ℕ → Bool) (before after : State) : Type 0 where
  pub live : after.live ≡ filter (λ u. not (gone u)) before.live
  pub nodes : (u : ℕ) → after.nodes u ≡ (before.nodes u && not (gone u))
  pub pairs : (u v : ℕ) → after.pairs u v ≡ (before.pairs u v && (not (gone u) && not (gone v)))
  pub accesses : after.accesses ≡ filter (λ a. not (gone a.by)) before.accesses
  pub chain : (k : Key) → after.chain k ≡ filter (λ w. not (gone w.0)) (before.chain k)
  pub read_from : (u v : ℕ) → Has after.read_from u v ↔ (Has before.read_from u v × (gone u ≡ false) × (gone v ≡ false))
  pub start_count : after.start_count ≡ before.start_count
  pub left : (u : ℕ) → gone u ≡ false → after.left u ≡ before.left u

-- `Settles`: t commits, and its values become the committed ones
pub record Settles (t : ℕ) (before after : State) : Type 0 where
  pub removes : Removes (λ u. nat_eq t u) before after
  pub settled : (k : Key) → after.settled k ≡ unwrap_or (value_in t (before.chain k)) (before.settled k)
  pub fates : (u : ℕ) → after.fates u ≡ cond (nat_eq t u) (Some fate.Committed) (before.fates u)

-- t is aborted, with those aborted in cascade: their values are dropped
pub record Drops (t : ℕ) (why : Cause) (fell : List ℕ) (before after : State) : Type 0 where
  pub removes : Removes (λ u. nat_eq t u || list_any (λ v. nat_eq v u) fell) before after
  pub settled : (k : Key) → after.settled k ≡ before.settled k
  pub fates : (u : ℕ) → after.fates u ≡ cond (nat_eq t u) (Some (fate.Aborted why)) (cond (list_any (λ v. nat_eq v u) fell) (Some (fate.Fell t)) (before.fates u))
