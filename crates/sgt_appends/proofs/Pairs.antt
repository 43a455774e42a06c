-- Pairs of numbers by their order, and a map with a value inserted at one of them.
use Rattle.std.proofs.Common.{◌≡◌, ◌⊎◌, ◌<◌, ℕ, Bool, true, false, cond, Some, Ordering, Less, Equal, Greater, refl, ap, ◌∙◌, subst, inl, inr}
use Rattle.std.specs.Ordering.{nat_cmp, ordering_then, ordering_reverse, is_eq, MatchOrdering}
use Rattle.std.specs.Cmp.{ranks}
use Rattle.std.proofs.lemmas.Cmp.{nat_cmp_total}
use Rattle.sgt_appends.specs.Indexes.{Positions, pair_cmp}

then_equal : (o p : Ordering) → is_eq (ordering_then o p) ≡ true → (o ≡ Equal) × (p ≡ Equal)
then_equal Less p h = absurd (cc)
then_equal Equal Less h = absurd (cc)
then_equal Equal Equal h = (refl, refl)
then_equal Equal Greater h = absurd (cc)
then_equal Greater p h = absurd (cc)

-- pairs of which neither comes first are the same
pub pair_same : (k v l w : ℕ) → is_eq (pair_cmp (k, v) (l, w)) ≡ true → (k ≡ l) × (v ≡ w)
pair_same k v l w h =
    let both = then_equal (nat_cmp k l) (nat_cmp v w) h in (
      subst (λ o. MatchOrdering o (k < l) (k ≡ l) (l < k)) both.0 (ranks k l),
      subst (λ o. MatchOrdering o (v < w) (v ≡ w) (w < v)) both.1 (ranks v w),
    )

pub nat_itself : (k : ℕ) → nat_cmp k k ≡ Equal
nat_itself k = by (nat_cmp k k) (nat_cmp_total.antisymm k k)
  where
    by : (o : Ordering) → o ≡ ordering_reverse o → o ≡ Equal
    by Less e = absurd (cc)
    by Equal e = refl
    by Greater e = absurd (cc)

-- a pair is the same as itself
pub pair_itself : (k v : ℕ) → is_eq (pair_cmp (k, v) (k, v)) ≡ true
pair_itself k v = rw (nat_itself k, nat_itself v) refl

-- a map with this value inserted at the pair
abbrev pub IsWith : ℕ → ℕ → ℕ × ℕ → Positions → Positions → Type 0
IsWith key value x old new = (k v : ℕ) → new k v ≡ cond (is_eq (pair_cmp (key, value) (k, v))) (Some x) (old k v)

pub with_here : (key value : ℕ) (x : ℕ × ℕ) (old new : Positions) → IsWith key value x old new → new key value ≡ Some x
with_here key value x old new with = with key value ∙ ap (λ b. cond b (Some x) (old key value)) (pair_itself key value)

-- each pair of the map was there, or is the new one
pub with_cases : (key value : ℕ) (x : ℕ × ℕ) (old new : Positions) → IsWith key value x old new → (k v : ℕ)
    → ((key ≡ k) × (value ≡ v)) ⊎ (new k v ≡ old k v)
with_cases key value x old new with k v = go (is_eq (pair_cmp (key, value) (k, v))) refl
  where
    go : (b : Bool) → is_eq (pair_cmp (key, value) (k, v)) ≡ b → ((key ≡ k) × (value ≡ v)) ⊎ (new k v ≡ old k v)
    go true is = inl (pair_same key value k v is)
    go false is = inr (with k v ∙ ap (λ b. cond b (Some x) (old k v)) is)
