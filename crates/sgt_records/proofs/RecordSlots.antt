-- The effect of a changed record and its chain on the keys.
use Rattle.std.proofs.Common.{◌≡◌, ◌≢◌, ℕ, ◌<◌, nat_eq, length, unwrap_or, ℤ, Bool, true, false, cond, List, [], ◌⊎◌, inl, inr, Option, Some, None, IfSome, refl, sym, ap, ◌∙◌, subst}
use Rattle.std.proofs.lemmas.Bool.{true≢false, eq-eqb, eqb-true}
use Rattle.std.specs.Option.{is_some, option_and_then, unwrap_or}
use Rattle.slab.specs.Slab.{Slab}
use Rattle.slab.specs.Slab as slab
use Rattle.sgt_model.specs.Numbers.{IsValue}
use Rattle.sgt_model.specs.Contents.{Key, key_eq}
use Rattle.sgt_model.specs.Chains.{value_in}
use Rattle.sgt_model.specs.StoredValues.{HoldValues}
use Rattle.sgt_model.proofs.Stores.{key_eq-true, key_eq-refl}
use Rattle.sgt_records.specs.declared.chain.Chain.{Chain}
use Rattle.sgt_records.specs.declared.record.Record.{Record}
use Rattle.sgt_records.specs.declared.written.Written.{Written}
use Rattle.sgt_records.specs.declared.written.Written.TheVariants.{Nothing, Once, InSlot}
use Rattle.sgt_records.specs.Slots.{writes_of, chain_at, slot_in, Moves, written_by, slot_of, key_chain, committed_of, IsIndex}
use Rattle.sgt_records.specs.Validity.{IsChain}

-- a chain where none is
nothing_held : (b : Option Chain) → b ≡ None → is_some b ≡ true → ⊥
nothing_held b vacant there = absurd (true≢false (sym there ∙ ap is_some vacant))

-- one slot
same_slot : (p q : ℕ) → Some p ≡ Some q → p ≡ q
same_slot p q e = ap (λ (o : Option ℕ). unwrap_or o p) e

-- equal slabs give equal chains
chain_alike : (a b : Slab Chain) → ((p : ℕ) → slab.get b p ≡ slab.get a p) → (w : Written) → chain_at b w ≡ chain_at a w
chain_alike a b same Nothing = refl
chain_alike a b same (Once t v) = refl
chain_alike a b same (InSlot p) = ap writes_of (same p)

-- records of the same values, committed and pending
module _ (m n : Key → Option Record) (a b : Slab Chain) (written : (k : Key) → written_by (n k) ≡ written_by (m k))
    (committed : (k : Key) → committed_of n k ≡ committed_of m k) (same : (p : ℕ) → slab.get b p ≡ slab.get a p) where
  slot_alike : (k : Key) → slot_of n k ≡ slot_of m k
  slot_alike k = ap slot_in (written k)

  chains_by_value : (k : Key) → key_chain n b k ≡ key_chain m a k
  chains_by_value k = ap (chain_at b) (written k) ∙ chain_alike a b same (written_by (m k))

  -- and the index
  pub index_by_value : IsIndex m a → IsIndex n b
  index_by_value index = record {
    held = λ k p at. ap is_some (same p) ∙ index.held k p (sym (slot_alike k) ∙ at);
    filled = λ k p at. subst (λ o. 0 < length (writes_of o)) (sym (same p)) (index.filled k p (sym (slot_alike k) ∙ at));
    owned = λ p none. ap is_some (same p) ∙ index.owned p (λ k at. none k (slot_alike k ∙ at));
    apart = λ j k p at at'. index.apart j k p (sym (slot_alike j) ∙ at) (sym (slot_alike k) ∙ at');
    are_chains = λ k. subst IsChain (sym (chains_by_value k)) (index.are_chains k);
    in_range = λ k. subst (λ (o : Option ℤ). IfSome o IsValue) (sym (committed k)) (index.in_range k);
  }

-- the same records
module _ (m n : Key → Option Record) (a b : Slab Chain) (records : (k : Key) → n k ≡ m k)
    (same : (p : ℕ) → slab.get b p ≡ slab.get a p) where
  pub index_alike : IsIndex m a → IsIndex n b
  index_alike = index_by_value m n a b (λ k. ap written_by (records k))
      (λ k. ap (option_and_then (λ (r : Record). r.committed)) (records k)) same

-- records with no chain
module _ (m : Key → Option Record) (a : Slab Chain) (none : (k : Key) → written_by (m k) ≡ Nothing) where
  pub chains_none : (k : Key) → key_chain m a k ≡ []
  chains_none k = ap (chain_at a) (none k)

  no_slot : (k : Key) (p : ℕ) → slot_of m k ≡ Some p → ⊥
  no_slot k p at = true≢false (sym (ap is_some (sym (ap slot_in (none k)) ∙ at)))

  pub index_none : HoldValues (committed_of m) → ((k : Key) → IsChain []) → ((p : ℕ) → is_some (slab.get a p) ≡ false) → IsIndex m a
  index_none values empty vacant = record {
    held = λ k p at. absurd (no_slot k p at);
    filled = λ k p at. absurd (no_slot k p at);
    owned = λ p _. vacant p;
    apart = λ j k p at at'. absurd (no_slot k p at');
    are_chains = λ k. subst IsChain (sym (chains_none k)) (empty k);
    in_range = values;
  }

-- what a record that is found says of its key
module _ (m : Key → Option Record) (a : Slab Chain) (key : Key) (r : Record) (is : m key ≡ Some r) (index : IsIndex m a) where
  pub written_is : written_by (m key) ≡ r.written
  written_is = ap written_by is

  pub committed_is : committed_of m key ≡ r.committed
  committed_is = ap (option_and_then (λ (r : Record). r.committed)) is

  pub chain_there : IsChain (chain_at a r.written)
  chain_there = subst (λ w. IsChain (chain_at a w)) written_is (index.are_chains key)

  pub value_there : IfSome r.committed IsValue
  value_there = subst (λ (o : Option ℤ). IfSome o IsValue) committed_is (index.in_range key)

module _ (m n : Key → Option Record) (key : Key) (r : Record) (returned : (k : Key) → n k ≡ cond (key_eq key k) (Some r) (m k)) where
  written_returned : (k : Key) → written_by (n k) ≡ cond (key_eq key k) r.written (written_by (m k))
  written_returned k = ap written_by (returned k) ∙ go (key_eq key k)
    where
      go : (b : Bool) → written_by (cond b (Some r) (m k)) ≡ cond b r.written (written_by (m k))
      go true = refl
      go false = refl

  slot_returned : (k : Key) → slot_of n k ≡ cond (key_eq key k) (slot_in r.written) (slot_of m k)
  slot_returned k = ap slot_in (written_returned k) ∙ go (key_eq key k)
    where
      go : (b : Bool) → slot_in (cond b r.written (written_by (m k))) ≡ cond b (slot_in r.written) (slot_of m k)
      go true = refl
      go false = refl

  -- the record's committed value is the key's, and every other is as before
  pub committed_returned : (k : Key) → committed_of n k ≡ cond (key_eq key k) r.committed (committed_of m k)
  committed_returned k = ap (option_and_then (λ (r : Record). r.committed)) (returned k) ∙ go (key_eq key k)
    where
      go : (b : Bool) → option_and_then (λ (r : Record). r.committed) (cond b (Some r) (m k)) ≡ cond b r.committed (committed_of m k)
      go true = refl
      go false = refl

  -- where it has not changed, all are
  pub committed_same : r.committed ≡ committed_of m key → (k : Key) → committed_of n k ≡ committed_of m k
  committed_same same k = committed_returned k ∙ go (key_eq key k) refl
    where
      go : (b : Bool) → key_eq key k ≡ b → cond b r.committed (committed_of m k) ≡ committed_of m k
      go true e = same ∙ ap (committed_of m) (key_eq-true key k e)
      go false e = refl

  module _ (a b : Slab Chain) (index : IsIndex m a) (from : Written) (was : written_by (m key) ≡ from)
      (moves : Moves a b (slot_in from) (slot_in r.written)) where
    -- another key's slot is not the one from before
    not_from : (k : Key) (p : ℕ) → key_eq key k ≡ false → slot_of m k ≡ Some p → slot_in from ≢ Some p
    not_from k p other at own = absurd (true≢false
        (sym (subst (λ j. key_eq key j ≡ true) (index.apart key k p (ap slot_in was ∙ own) at) (key_eq-refl key)) ∙ other))

    -- and not the new one
    not_to : (k : Key) (p : ℕ) → key_eq key k ≡ false → slot_of m k ≡ Some p → slot_in r.written ≢ Some p
    not_to k p other at here = go (moves.free p here)
      where
        go : (slot_in from ≡ Some p) ⊎ (slab.get a p ≡ None) → ⊥
        go (inl own) = not_from k p other at own
        go (inr vacant) = nothing_held (slab.get a p) vacant (index.held k p at)

    -- so its chain stays
    same_chain : (k : Key) → key_eq key k ≡ false → (w : Written) → written_by (m k) ≡ w → chain_at b w ≡ chain_at a w
    same_chain k other Nothing at = refl
    same_chain k other (Once t v) at = refl
    same_chain k other (InSlot p) at = ap writes_of
        (moves.others p (not_from k p other (ap slot_in at)) (not_to k p other (ap slot_in at)))

    -- the record's chain is the key's, and every other is as before
    pub chain_returned : (k : Key) → key_chain n b k ≡ cond (key_eq key k) (chain_at b r.written) (key_chain m a k)
    chain_returned k = go (key_eq key k) refl (written_returned k)
      where
        go : (e : Bool) → key_eq key k ≡ e → written_by (n k) ≡ cond e r.written (written_by (m k))
            → chain_at b (written_by (n k)) ≡ cond e (chain_at b r.written) (key_chain m a k)
        go true e at = ap (chain_at b) at
        go false e at = ap (chain_at b) at ∙ same_chain k e (written_by (m k)) refl

    -- a change of the chain is a change of the key's
    pub chain_by : (f : List (ℕ × Option ℤ) → List (ℕ × Option ℤ)) → chain_at b r.written ≡ f (chain_at a from) → (k : Key)
        → key_chain n b k ≡ cond (key_eq key k) (f (key_chain m a k)) (key_chain m a k)
    chain_by f changed k = chain_returned k ∙ go (key_eq key k) refl
      where
        go : (e : Bool) → key_eq key k ≡ e → cond e (chain_at b r.written) (key_chain m a k)
            ≡ cond e (f (key_chain m a k)) (key_chain m a k)
        go true e = changed ∙ ap f (ap (chain_at a) (sym was) ∙ ap (key_chain m a) (key_eq-true key k e))
        go false e = refl

    -- and so is one of its committed value
    pub committed_by : (t : ℕ) (before : Option ℤ) → committed_of m key ≡ before
        → r.committed ≡ unwrap_or (value_in t (chain_at a from)) before → (k : Key)
        → committed_of n k ≡ cond (key_eq key k) (unwrap_or (value_in t (key_chain m a k)) (committed_of m k)) (committed_of m k)
    committed_by t before old changed k = committed_returned k ∙ go (key_eq key k) refl
      where
        here : r.committed ≡ unwrap_or (value_in t (key_chain m a key)) (committed_of m key)
        here =
            changed ∙ (ap (λ o. unwrap_or (value_in t (chain_at a from)) o) (sym old)
            ∙ ap (λ o. unwrap_or (value_in t (chain_at a o)) (committed_of m key)) (sym was))

        go : (e : Bool) → key_eq key k ≡ e → cond e r.committed (committed_of m k) ≡ cond e
            (unwrap_or (value_in t (key_chain m a k)) (committed_of m k)) (committed_of m k)
        go true e = here ∙ ap (λ j. unwrap_or (value_in t (key_chain m a j)) (committed_of m j)) (key_eq-true key k e)
        go false e = refl

    -- the index stands
    pub index_returned : IsChain (chain_at b r.written) → IfSome r.committed IsValue → IsIndex n b
    index_returned chain value = record {
      held = λ k p at. here k p (key_eq key k) refl (sym (slot_returned k) ∙ at);
      filled = λ k p at. full k p (key_eq key k) refl (sym (slot_returned k) ∙ at);
      owned = λ p none. left p none (slot_in from) refl;
      apart = λ j k p at at'. one j k p (key_eq key j) (key_eq key k) refl refl (sym (slot_returned j) ∙ at) (sym (slot_returned k) ∙ at');
      are_chains = λ k. subst IsChain (sym (chain_returned k)) (kept k (key_eq key k));
      in_range = λ k. subst (λ (o : Option ℤ). IfSome o IsValue) (sym (committed_returned k)) (valued k (key_eq key k));
    }
      where
        here : (k : Key) (p : ℕ) (e : Bool) → key_eq key k ≡ e → cond e (slot_in r.written) (slot_of m k) ≡ Some p
            → is_some (slab.get b p) ≡ true
        here k p true e at = moves.held p at
        here k p false e at = ap is_some (moves.others p (not_from k p e at) (not_to k p e at)) ∙ index.held k p at

        full : (k : Key) (p : ℕ) (e : Bool) → key_eq key k ≡ e → cond e (slot_in r.written) (slot_of m k) ≡ Some p
            → 0 < length (writes_of (slab.get b p))
        full k p true e at = moves.filled p at
        full k p false e at = subst (λ o. 0 < length (writes_of o)) (sym (moves.others p (not_from k p e at) (not_to k p e at)))
            (index.filled k p at)

        -- a slot that is no key's was none's before, or was freed
        not_here : (p : ℕ) → ((k : Key) → slot_of n k ≢ Some p) → slot_in r.written ≢ Some p
        not_here p none at = none key (slot_returned key ∙ (ap (λ e. cond e (slot_in r.written) (slot_of m key)) (key_eq-refl key) ∙ at))

        not_before : (p : ℕ) → ((k : Key) → slot_of n k ≢ Some p) → slot_in from ≢ Some p → (k : Key) → slot_of m k ≢ Some p
        not_before p none away k at = go (key_eq key k) refl
          where
            go : (e : Bool) → key_eq key k ≡ e → ⊥
            go true e = away (sym (ap slot_in was) ∙ (ap (slot_of m) (key_eq-true key k e) ∙ at))
            go false e = none k (slot_returned k ∙ (ap (λ d. cond d (slot_in r.written) (slot_of m k)) e ∙ at))

        stayed : (p : ℕ) → ((k : Key) → slot_of n k ≢ Some p) → slot_in from ≢ Some p → is_some (slab.get b p) ≡ false
        stayed p none away = ap is_some (moves.others p away (not_here p none)) ∙ index.owned p (not_before p none away)

        left : (p : ℕ) → ((k : Key) → slot_of n k ≢ Some p) → (o : Option ℕ) → slot_in from ≡ o → is_some (slab.get b p) ≡ false
        left p none None at = stayed p none (λ own. true≢false (sym (ap is_some (sym at ∙ own))))
        left p none (Some q) at = go (nat_eq q p) refl
          where
            other : nat_eq q p ≡ false → slot_in from ≢ Some p
            other e own = absurd (true≢false (sym (eq-eqb q p (same_slot q p (sym at ∙ own))) ∙ e))

            go : (e : Bool) → nat_eq q p ≡ e → is_some (slab.get b p) ≡ false
            go true e = moves.given_back p (at ∙ ap (λ i. Some i) (eqb-true q p e)) (not_here p none)
            go false e = stayed p none (other e)

        one : (j k : Key) (p : ℕ) (d e : Bool) → key_eq key j ≡ d → key_eq key k ≡ e → cond d (slot_in r.written) (slot_of m j) ≡ Some p
            → cond e (slot_in r.written) (slot_of m k) ≡ Some p → j ≡ k
        one j k p true true d e at at' = sym (key_eq-true key j d) ∙ key_eq-true key k e
        one j k p true false d e at at' = absurd (not_to k p e at' at)
        one j k p false true d e at at' = absurd (not_to j p d at at')
        one j k p false false d e at at' = index.apart j k p at at'

        kept : (k : Key) (e : Bool) → IsChain (cond e (chain_at b r.written) (key_chain m a k))
        kept k true = chain
        kept k false = index.are_chains k

        valued : (k : Key) (e : Bool) → IfSome (cond e r.committed (committed_of m k)) IsValue
        valued k true = value
        valued k false = index.in_range k

-- the same where the record that was there is known
module _ (m n : Key → Option Record) (key : Key) (r : Record) (returned : (k : Key) → n k ≡ cond (key_eq key k) (Some r) (m k))
    (a b : Slab Chain) (index : IsIndex m a) (old : Record) (is : m key ≡ Some old)
    (moves : Moves a b (slot_in old.written) (slot_in r.written)) where
  was : written_by (m key) ≡ old.written
  was = written_is m a key old is index

  pub chain_put : (f : List (ℕ × Option ℤ) → List (ℕ × Option ℤ)) → chain_at b r.written ≡ f (chain_at a old.written) → (k : Key)
      → key_chain n b k ≡ cond (key_eq key k) (f (key_chain m a k)) (key_chain m a k)
  chain_put = chain_by m n key r returned a b index old.written was moves

  pub committed_put : (t : ℕ) → r.committed ≡ unwrap_or (value_in t (chain_at a old.written)) old.committed → (k : Key)
      → committed_of n k ≡ cond (key_eq key k) (unwrap_or (value_in t (key_chain m a k)) (committed_of m k)) (committed_of m k)
  committed_put t = committed_by m n key r returned a b index old.written was moves t old.committed (committed_is m a key old is index)

  pub index_put : (IsChain (chain_at a old.written) → IsChain (chain_at b r.written))
      → (IsChain (chain_at a old.written) → IfSome old.committed IsValue → IfSome r.committed IsValue) → IsIndex n b
  index_put chained valued =
      let chain = chain_there m a key old is index in
      index_returned m n key r returned a b index old.written was moves (chained chain) (valued chain (value_there m a key old is index))

-- each record is as before, or an empty one where there was none
module _ (m n : Key → Option Record) (a b : Slab Chain) (r : Record) (here : r.written ≡ Nothing) (none : r.committed ≡ None)
    (same : (p : ℕ) → slab.get b p ≡ slab.get a p) (each : (k : Key) → (n k ≡ m k) ⊎ ((m k ≡ None) × (n k ≡ Some r))) where
  written_added : (k : Key) → written_by (n k) ≡ written_by (m k)
  written_added k = go (each k)
    where
      go : (n k ≡ m k) ⊎ ((m k ≡ None) × (n k ≡ Some r)) → written_by (n k) ≡ written_by (m k)
      go (inl as_before) = ap written_by as_before
      go (inr empty) = ap written_by empty.1 ∙ (here ∙ sym (ap written_by empty.0))

  committed_added : (k : Key) → committed_of n k ≡ committed_of m k
  committed_added k = go (each k)
    where
      committed : Option Record → Option ℤ
      committed o = option_and_then (λ (r : Record). r.committed) o

      go : (n k ≡ m k) ⊎ ((m k ≡ None) × (n k ≡ Some r)) → committed (n k) ≡ committed (m k)
      go (inl as_before) = ap committed as_before
      go (inr empty) = ap committed empty.1 ∙ (none ∙ sym (ap committed empty.0))

  -- and the index
  pub index_added : IsIndex m a → IsIndex n b
  index_added = index_by_value m n a b written_added committed_added same

-- a record that had no value, committed or pending, is dropped
module _ (m n : Key → Option Record) (a : Slab Chain) (key : Key) (r : Record) (is : m key ≡ Some r) (here : r.written ≡ Nothing)
    (none : r.committed ≡ None) (returned : (k : Key) → n k ≡ cond (key_eq key k) None (m k)) where
  it_was : (k : Key) → key_eq key k ≡ true → m k ≡ Some r
  it_was k e = ap m (sym (key_eq-true key k e)) ∙ is

  written_dropped : (k : Key) → written_by (n k) ≡ written_by (m k)
  written_dropped k = ap written_by (returned k) ∙ go (key_eq key k) refl
    where
      go : (b : Bool) → key_eq key k ≡ b → written_by (cond b None (m k)) ≡ written_by (m k)
      go true e = sym (ap written_by (it_was k e) ∙ here)
      go false e = refl

  committed_dropped : (k : Key) → committed_of n k ≡ committed_of m k
  committed_dropped k = ap (option_and_then (λ (r : Record). r.committed)) (returned k) ∙ go (key_eq key k) refl
    where
      go : (b : Bool) → key_eq key k ≡ b
          → option_and_then (λ (r : Record). r.committed) (cond b None (m k)) ≡ option_and_then (λ (r : Record). r.committed) (m k)
      go true e = sym (ap (option_and_then (λ (r : Record). r.committed)) (it_was k e) ∙ none)
      go false e = refl

  -- and the index
  pub index_dropped : IsIndex m a → IsIndex n a
  index_dropped = index_by_value m n a a written_dropped committed_dropped (λ p. refl)
