-- Rows by key, taken one by one, and those of two databases in turn.
use Rattle.std.proofs.Common.{◌≡◌, ℕ, zero, suc, ◌+◌, ◌<◌, ◌≤◌, arith, Bool, true, false, cond, nat_eq, List, [], ◌∷◌, length, Option, Some, None, take, slice_get, refl, sym, ap, ◌∙◌, subst, add-one}
use Rattle.std.proofs.lemmas.Bool.{true≢false, eqb-true, eqb-false}
use Rattle.std.proofs.lemmas.Option.{same_Some, slice_get_within}
use Rattle.std.specs.Option.{option_or}
use Rattle.sgt_model.specs.Numbers.{IsValue}
use Rattle.sgt_model.specs.Contents.{Key, key_eq, put_in}
use Rattle.sgt_model.specs.Databases.{Row, contents_of, key_lt, IsByKey, HasValues}
use Rattle.sgt_model.proofs.Rows.{below_at, by_key_at, key_eq-below, key_lt-trans}
use Rattle.sgt_model.proofs.Stores.{key_eq-true}

-- one more row writes its value
one_row_more : (rows : List Row) (i : ℕ) (r : Row) → IsByKey rows → slice_get rows i ≡ Some r → (k : Key)
    → contents_of (take (suc i) rows) k ≡ put_in (contents_of (take i rows)) r.0 r.1 k
one_row_more [] i r ordered at k = absurd (cc)
one_row_more (x ∷ rows) zero r ordered at k = ap (λ (y : Row). cond (key_eq y.0 k) (Some y.1) None) (same_Some x r at)
one_row_more (x ∷ rows) (suc i) r ordered at k =
    ap (λ o. cond (key_eq x.0 k) (Some x.1) o) (one_row_more rows i r ordered.1 at k) ∙ go (key_eq x.0 k) (key_eq r.0 k) refl refl
  where
    go : (a b : Bool) → key_eq x.0 k ≡ a → key_eq r.0 k ≡ b
        → cond a (Some x.1) (cond b (Some r.1) (contents_of (take i rows) k)) ≡ cond b (Some r.1)
        (cond a (Some x.1) (contents_of (take i rows) k))
    go true true e f =
        absurd (true≢false (sym (subst (λ j. key_eq x.0 j ≡ true) (sym (key_eq-true r.0 k f)) e)
        ∙ key_eq-below x.0 r.0 (below_at x.0 rows i r ordered.0 at)))
    go true false e f = refl
    go false b e f = refl

-- the same, as a loop counts
pub row_more : (rows : List Row) (i : ℕ) (r : Row) → IsByKey rows → slice_get rows i ≡ Some r → (k : Key)
    → contents_of (take (i + 1) rows) k ≡ put_in (contents_of (take i rows)) r.0 r.1 k
row_more rows i r ordered at k = subst (λ n. contents_of (take n rows) k ≡ put_in (contents_of (take i rows)) r.0 r.1 k) (sym (add-one i))
    (one_row_more rows i r ordered at k)

-- a row's value is one
pub value_of_row : (rows : List Row) (i : ℕ) (r : Row) → HasValues rows → slice_get rows i ≡ Some r → IsValue r.1
value_of_row [] i r values at = absurd (cc)
value_of_row (x ∷ rows) zero r values at = subst (λ (y : Row). IsValue y.1) (same_Some x r at) values.0
value_of_row (x ∷ rows) (suc i) r values at = value_of_row rows i r values.1 at

-- no key of the rows from an index on has a value among these
abbrev pub AreApart : List Row → ℕ → List Row → Type 0
AreApart rows at taken = (i : ℕ) (r : Row) → at ≤ i → slice_get rows i ≡ Some r → contents_of taken r.0 ≡ None

-- a newer row is put above what is there
pub newer_more : (rows newer : List Row) (at j : ℕ) (q : Row) → IsByKey newer → slice_get newer j ≡ Some q → (k : Key)
    → put_in (λ k. option_or (contents_of (take j newer) k) (contents_of (take at rows) k)) q.0 q.1 k
    ≡ option_or (contents_of (take (j + 1) newer) k) (contents_of (take at rows) k)
newer_more rows newer at j q ordered is k =
    go (key_eq q.0 k) ∙ ap (λ o. option_or o (contents_of (take at rows) k)) (sym (row_more newer j q ordered is k))
  where
    go : (b : Bool) → cond b (Some q.1) (option_or (contents_of (take j newer) k) (contents_of (take at rows) k))
        ≡ option_or (cond b (Some q.1) (contents_of (take j newer) k)) (contents_of (take at rows) k)
    go true = refl
    go false = refl

-- another row is put where no newer one is
pub older_more : (rows newer : List Row) (at j : ℕ) (r : Row) → IsByKey rows → slice_get rows at ≡ Some r
    → contents_of (take j newer) r.0 ≡ None → (k : Key)
    → put_in (λ k. option_or (contents_of (take j newer) k) (contents_of (take at rows) k)) r.0 r.1 k
    ≡ option_or (contents_of (take j newer) k) (contents_of (take (at + 1) rows) k)
older_more rows newer at j r ordered is none k =
    go (key_eq r.0 k) refl ∙ ap (λ o. option_or (contents_of (take j newer) k) o) (sym (row_more rows at r ordered is k))
  where
    go : (b : Bool) → key_eq r.0 k ≡ b
        → cond b (Some r.1) (option_or (contents_of (take j newer) k) (contents_of (take at rows) k))
        ≡ option_or (contents_of (take j newer) k) (cond b (Some r.1) (contents_of (take at rows) k))
    go true e = ap (λ o. option_or o (Some r.1)) (sym (ap (contents_of (take j newer)) (sym (key_eq-true r.0 k e)) ∙ none))
    go false e = refl

-- and the rows after it are apart from one more newer row, which comes before them
pub apart_more : (rows newer : List Row) (at j : ℕ) (q : Row) → IsByKey rows → IsByKey newer → slice_get newer j ≡ Some q
    → ((r : Row) → slice_get rows at ≡ Some r → key_lt q.0 r.0 ≡ true) → AreApart rows at (take j newer)
    → AreApart rows at (take (j + 1) newer)
apart_more rows newer at j q ordered by_key is before apart i r from at_i =
    row_more newer j q by_key is r.0 ∙ (ap (λ b. cond b (Some q.1) (contents_of (take j newer) r.0)) (key_eq-below q.0 r.0 low)
    ∙ apart i r from at_i)
  where
    first : (o : Option Row) → slice_get rows at ≡ o → at < i → key_lt q.0 r.0 ≡ true
    first None none less = let h = slice_get_within rows i r at_i in absurd (omega (arith, none_at rows at none))
      where
        none_at : (rows : List Row) (at : ℕ) → slice_get rows at ≡ None → length rows ≤ at
        none_at [] at none = omega arith
        none_at (x ∷ rows) zero none = absurd (cc)
        none_at (x ∷ rows) (suc at) none = let h = none_at rows at none in omega (arith, h)
    first (Some s) is_s less = key_lt-trans q.0 s.0 r.0 (before s is_s) (by_key_at rows at i s r ordered less is_s at_i)

    low : key_lt q.0 r.0 ≡ true
    low = both (nat_eq at i) refl
      where
        both : (b : Bool) → nat_eq at i ≡ b → key_lt q.0 r.0 ≡ true
        both true e = before r (ap (slice_get rows) (eqb-true at i e) ∙ at_i)
        both false e = first (slice_get rows at) refl (omega (arith, eqb-false at i e))
