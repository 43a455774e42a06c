-- The live writes, taken out one by one: what is left to do gives what all gives.
use Rattle.std.proofs.Common.{◌≡◌, ◌≢◌, ℕ, suc, ◌<◌, ℤ, Bool, true, false, cond, not, ◌&&◌, ◌||◌, nat_eq, List, [], ◌∷◌, length, get_or, swap_remove, Option, Some, arith, refl, sym, ap, subst, ◌∙◌, inl, inr}
use Rattle.std.specs.List.{list_any, AllWithin}
use Rattle.std.specs.Option.{unwrap_or}
use Rattle.std.proofs.lemmas.Bool.{cases_eq, eq-eqb, ne_eqb}
use Rattle.std.proofs.lemmas.List.Elements.{All-tail}
use Rattle.std.proofs.lemmas.List.Sorted.{list_any-IsPermutation, All-permutation, IsPermutation-swap_remove}
use Rattle.sgt_model.specs.Contents.{Key, key_eq}
use Rattle.sgt_model.specs.Chains.{chain_without, value_in, writes_in}
use Rattle.sgt_records.specs.declared.live_write.LiveWrite.{LiveWrite}
use Rattle.sgt_records.specs.LiveWrites.{is_live, IndicesAgree}
use Rattle.sgt_records.proofs.ChainIndices.{left_whole, no_value}
use Rattle.sgt_records.proofs.LiveWritesLeft.{not_left, writers_left}

-- a live write is by the transaction, of the key
abbrev is_of : ℕ → Key → LiveWrite → Bool
is_of u k w = nat_eq w.by u && key_eq w.key k

as_any : (u : ℕ) (k : Key) (writes : List LiveWrite) → is_live u k writes ≡ list_any (is_of u k) writes
as_any u k [] = refl
as_any u k (w ∷ writes) = ap (λ b. is_of u k w || b) (as_any u k writes)

module _ (writes : List LiveWrite) (i : ℕ) (w : LiveWrite) (short : i < length writes) (is : w ≡ get_or writes i w) where
  abbrev rest : List LiveWrite
  rest = swap_remove writes i w

  pub live_taken : (u : ℕ) (k : Key) → is_live u k writes ≡ ((nat_eq w.by u && key_eq w.key k) || is_live u k rest)
  live_taken u k = as_any u k writes
      ∙ list_any-IsPermutation (is_of u k) writes (w ∷ rest) (IsPermutation-swap_remove writes i w short is)
      ∙ sym (as_any u k (w ∷ rest))

  -- the indices of the others
  pub report_taken : (indices : Key → Option ℕ) → IndicesAgree indices writes → IndicesAgree indices rest
  report_taken indices all = All-tail (λ (x : LiveWrite). indices x.key ≡ Some x.index) w rest
      (All-permutation (λ (x : LiveWrite). indices x.key ≡ Some x.index) writes (w ∷ rest)
      (IsPermutation-swap_remove writes i w short is) all)

  module _ (t : ℕ) (own : w.by ≡ t) where
    -- another's writes are all there
    pub others_taken : (u : ℕ) (k : Key) → u ≢ t → is_live u k rest ≡ is_live u k writes
    others_taken u k other = sym (live_taken u k
        ∙ ap (λ b. (b && key_eq w.key k) || is_live u k rest) (ne_eqb w.by u (λ e. other (sym e ∙ own))))

    live_own : (k : Key) → is_live t k writes ≡ (key_eq w.key k || is_live t k rest)
    live_own k = live_taken t k ∙ ap (λ b. (b && key_eq w.key k) || is_live t k rest) (eq-eqb w.by t own)

    -- the chain of its key is left without it
    pub undo_taken : (k : Key) (before after : List (ℕ × Option ℤ)) → after ≡ cond (key_eq w.key k) (chain_without t before) before
        → cond (is_live t k rest) (chain_without t after) after ≡ cond (is_live t k writes) (chain_without t before) before
    undo_taken k before after one = ap (λ c. cond (is_live t k rest) (chain_without t c) c) one
        ∙ go (key_eq w.key k) (is_live t k rest) ∙ sym (ap (λ b. cond b (chain_without t before) before) (live_own k))
      where
        go : (e d : Bool) → cond d (chain_without t (cond e (chain_without t before) before)) (cond e (chain_without t before) before)
            ≡ cond (e || d) (chain_without t before) before
        go true true = left_whole t (chain_without t before) (not_left t before)
        go true false = refl
        go false true = refl
        go false false = refl

    -- and its value is the committed one
    pub settle_taken : (k : Key) (before after : List (ℕ × Option ℤ)) (old new : Option ℤ)
        → after ≡ cond (key_eq w.key k) (chain_without t before) before
        → new ≡ cond (key_eq w.key k) (unwrap_or (value_in t before) old) old
        → cond (is_live t k rest) (unwrap_or (value_in t after) new) new ≡ cond (is_live t k writes) (unwrap_or (value_in t before) old) old
    settle_taken k before after old new one value =
        ap (λ c. cond (is_live t k rest) (unwrap_or (value_in t c) new) new) one
        ∙ ap (λ v. cond (is_live t k rest) (unwrap_or (value_in t (cond (key_eq w.key k) (chain_without t before) before)) v) v) value
        ∙ go (key_eq w.key k) (is_live t k rest)
        ∙ sym (ap (λ b. cond b (unwrap_or (value_in t before) old) old) (live_own k))
      where
        final : Option ℤ
        final = unwrap_or (value_in t before) old

        go : (e d : Bool) → cond d (unwrap_or (value_in t (cond e (chain_without t before) before)) (cond e final old)) (cond e final old)
            ≡ cond (e || d) final old
        go true true = ap (λ o. unwrap_or o final) (no_value t (chain_without t before) (not_left t before))
        go true false = refl
        go false true = refl
        go false false = refl

-- none of the transaction's is left
pub none_live : (t : ℕ) (k : Key) (writes : List LiveWrite)
    → AllWithin (λ (w : LiveWrite). nat_eq w.by t ≡ false) writes 0 (length writes) → is_live t k writes ≡ false
none_live t k [] none = refl
none_live t k (w ∷ writes) none =
    ap (λ b. (b && key_eq w.key k) || is_live t k writes) (none 0 w (omega arith) (omega arith))
    ∙ none_live t k writes (λ i d low high. none (suc i) d (omega arith) (omega arith))

-- so the rest are those of the others
pub others_left : (t u : ℕ) (k : Key) (old new : List LiveWrite) → is_live t k new ≡ false
    → (u ≢ t → is_live u k new ≡ is_live u k old) → is_live u k new ≡ (not (nat_eq u t) && is_live u k old)
others_left t u k old new none others = elim (cases_eq u t) [
  | inl e ↦ subst (λ x. is_live x k new ≡ false) (sym e) none
      ∙ sym (ap (λ b. not b && is_live u k old) (eq-eqb u t e))
  | inr ne ↦ others ne ∙ sym (ap (λ b. not b && is_live u k old) (ne_eqb u t ne))
]

-- the chain of a key says the same as the live writes that are left
pub live_gone : (t u : ℕ) (k : Key) (old new : List LiveWrite) (opening after : List (ℕ × Option ℤ))
    → is_live u k old ≡ writes_in u opening → is_live u k new ≡ (not (nat_eq u t) && is_live u k old) → after ≡ chain_without t opening
    → is_live u k new ≡ writes_in u after
live_gone t u k old new opening after are left out = left
    ∙ ap (λ b. not (nat_eq u t) && b) are ∙ sym (writers_left t u opening) ∙ sym (ap (writes_in u) out)
