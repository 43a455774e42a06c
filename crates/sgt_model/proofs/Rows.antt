-- Rows by key: the index of a key among them, and what a row written there changes.
use Rattle.std.proofs.Common.{◌≡◌, ℕ, zero, suc, ℤ, ◌<◌, ◌≤◌, ◌+◌, ◌<ℤ◌, arith, Bool, true, false, cond, nat_eq, List, [], ◌∷◌, length, Option, Some, None, Ordering, Less, Equal, Greater, refl, sym, ap, ◌∙◌, subst, slice_get, slice_set, insert, get_or, Ok, Err}
use Rattle.std.specs.Ordering.{nat_cmp, int_cmp, ordering_reverse, ordering_then, partial_ordering_then, is_some_and, is_lt, MatchOrdering}
use Rattle.std.specs.Cmp.{IsTotalOrder, Some-then, ranks, int_ranks}
use Rattle.std.proofs.lemmas.Bool.{true≢false, eqb-true, eqb-false}
use Rattle.std.proofs.lemmas.Option.{same_Some, slice_get_read, slice_get_within}
use Rattle.std.proofs.lemmas.Cmp.{then_total, on_total, nat_cmp_total, int_cmp_total}
use Rattle.sgt_model.specs.Numbers.{IsValue}
use Rattle.sgt_model.specs.Contents.{Key, key_eq, put_in}
use Rattle.sgt_model.specs.Databases.{Row, contents_of, key_cmp, key_lt, IsRowIndex, IsFound, IsBelow, IsByKey, HasValues}
use Rattle.sgt_model.proofs.Stores.{key_eq-true, key_eq-refl}

-- on keys

-- keys are in a total order
pub key_order : IsTotalOrder key_cmp
key_order = then_total (on_total (λ k. k.0) nat_cmp_total) (on_total (λ k. k.1) int_cmp_total)

-- the test of an order, and what it tests
less_from : (o : Ordering) → is_lt o ≡ true → o ≡ Less
less_from Less h = refl
less_from Equal h = absurd (true≢false (sym h))
less_from Greater h = absurd (true≢false (sym h))

pub key_lt-trans : (a b c : Key) → key_lt a b ≡ true → key_lt b c ≡ true → key_lt a c ≡ true
key_lt-trans a b c h i = ap is_lt (key_order.trans a b c (less_from (key_cmp a b) h) (less_from (key_cmp b c) i))

reversed_less : (o : Ordering) → o ≡ ordering_reverse o → is_lt o ≡ false
reversed_less Less h = ap is_lt h
reversed_less Equal h = refl
reversed_less Greater h = refl

pub key_lt-refl : (a : Key) → key_lt a a ≡ false
key_lt-refl a = reversed_less (key_cmp a a) (key_order.antisymm a a)

then_equal : (o p : Ordering) → ordering_then o p ≡ Equal → (o ≡ Equal) × (p ≡ Equal)
then_equal Less p h = absurd (cc)
then_equal Equal p h = (refl, h)
then_equal Greater p h = absurd (cc)

-- keys of which neither comes first are the same
pub key_cmp-equal : (a b : Key) → key_cmp a b ≡ Equal → a ≡ b
key_cmp-equal a b h =
    let both = then_equal (nat_cmp a.0 b.0) (int_cmp a.1 b.1) h in
    let first : a.0 ≡ b.0 = subst (λ o. MatchOrdering o (a.0 < b.0) (a.0 ≡ b.0) (b.0 < a.0)) both.0 (ranks a.0 b.0) in
    let second : a.1 ≡ b.1 = subst (λ o. MatchOrdering o (a.1 <ℤ b.1) (a.1 ≡ b.1) (b.1 <ℤ a.1)) both.1 (int_ranks a.1 b.1) in
    λ i. (first i, second i)

-- the derived `<` of keys is the test
pub key_lt-derived : (a b : Key) → is_some_and is_lt (partial_ordering_then (Some (nat_cmp a.0 b.0)) (Some (int_cmp a.1 b.1))) ≡ key_lt a b
key_lt-derived a b = ap (is_some_and is_lt) (Some-then (nat_cmp a.0 b.0) (int_cmp a.1 b.1))

-- of two different keys, one comes first
pub key_lt-other : (a b : Key) → key_lt a b ≡ false → key_eq a b ≡ false → key_lt b a ≡ true
key_lt-other a b h i = ap is_lt (key_order.antisymm b a ∙ ap ordering_reverse (greater (key_cmp a b) refl)) where
  greater : (o : Ordering) → key_cmp a b ≡ o → key_cmp a b ≡ Greater
  greater Less e = absurd (true≢false (sym (ap is_lt e) ∙ h))
  greater Equal e = absurd (true≢false (sym (subst (λ c. key_eq a c ≡ true) (key_cmp-equal a b e) (key_eq-refl a)) ∙ i))
  greater Greater e = e

-- a key is not the same as one that it comes before
pub key_eq-below : (a b : Key) → key_lt a b ≡ true → key_eq a b ≡ false
key_eq-below a b h = both (key_eq a b) refl where
  both : (t : Bool) → key_eq a b ≡ t → key_eq a b ≡ false
  both false e = e
  both true e = absurd (true≢false (sym (subst (λ c. key_lt a c ≡ true) (sym (key_eq-true a b e)) h) ∙ key_lt-refl a))

key_eq-above : (a b : Key) → key_lt b a ≡ true → key_eq a b ≡ false
key_eq-above a b h = both (key_eq a b) refl where
  both : (t : Bool) → key_eq a b ≡ t → key_eq a b ≡ false
  both false e = e
  both true e = absurd (true≢false (sym (subst (λ c. key_lt b c ≡ true) (key_eq-true a b e) h) ∙ key_lt-refl b))

-- on indices

-- a key below rows comes before that of each
pub below_at : (k : Key) (rows : List Row) (i : ℕ) (r : Row) → IsBelow k rows → slice_get rows i ≡ Some r → key_lt k r.0 ≡ true
below_at k [] i r below at = absurd (cc)
below_at k (x ∷ rows) zero r below at = subst (λ (y : Row). key_lt k y.0 ≡ true) (same_Some _ _ at) below.0
below_at k (x ∷ rows) (suc i) r below at = below_at k rows i r below.1 at

-- of two rows, the one that stands first has the smaller key
pub by_key_at : (rows : List Row) (i j : ℕ) (q r : Row) → IsByKey rows → i < j → slice_get rows i ≡ Some q
    → slice_get rows j ≡ Some r → key_lt q.0 r.0 ≡ true
by_key_at [] i j q r rising h at at' = absurd (cc)
by_key_at (x ∷ rows) zero zero q r rising h at at' = absurd (omega arith)
by_key_at (x ∷ rows) zero (suc j) q r rising h at at' = subst (λ (y : Row). key_lt y.0 r.0 ≡ true) (same_Some _ _ at)
    (below_at x.0 rows j r rising.0 at')
by_key_at (x ∷ rows) (suc i) zero q r rising h at at' = absurd (omega arith)
by_key_at (x ∷ rows) (suc i) (suc j) q r rising h at at' = by_key_at rows i j q r rising.1 (omega arith) at at'

-- halving: what comes before a key below the one in the middle comes before it too
pub low_moves : (rows : List Row) (m : ℕ) (q : Row) (k : Key) → IsByKey rows → slice_get rows m ≡ Some q → key_lt q.0 k ≡ true
    → (i : ℕ) (r : Row) → i < m + 1 → slice_get rows i ≡ Some r → key_lt r.0 k ≡ true
low_moves rows m q k rising at less i r h at' = within (nat_eq i m) refl where
  within : (t : Bool) → nat_eq i m ≡ t → key_lt r.0 k ≡ true
  within true e = subst (λ (y : Row). key_lt y.0 k ≡ true)
      (same_Some _ _ (sym at ∙ (ap (slice_get rows) (sym (eqb-true i m e)) ∙ at'))) less
  within false e = key_lt-trans r.0 q.0 k (by_key_at rows i m r q rising (omega (arith, eqb-false i m e)) at' at) less

-- and none after it where it does not come first
pub high_moves : (rows : List Row) (m : ℕ) (q : Row) (k : Key) → IsByKey rows → slice_get rows m ≡ Some q → key_lt q.0 k ≡ false
    → (i : ℕ) (r : Row) → m ≤ i → slice_get rows i ≡ Some r → key_lt r.0 k ≡ false
high_moves rows m q k rising at more i r h at' = within (nat_eq i m) refl where
  within : (t : Bool) → nat_eq i m ≡ t → key_lt r.0 k ≡ false
  within true e = subst (λ (y : Row). key_lt y.0 k ≡ false)
      (same_Some _ _ (sym at ∙ (ap (slice_get rows) (sym (eqb-true i m e)) ∙ at'))) more
  within false e = both (key_lt r.0 k) refl where
    both : (t : Bool) → key_lt r.0 k ≡ t → key_lt r.0 k ≡ false
    both false f = f
    both true f =
        absurd (true≢false (sym (key_lt-trans q.0 r.0 k (by_key_at rows m i q r rising (omega (arith, eqb-false i m e)) at at') f) ∙ more))

-- where all before it come before the key, and none from it on, it is the key's index
pub index_from : (k : Key) (rows : List Row) (n : ℕ) → n ≤ length rows → ((i : ℕ) (r : Row) → i < n → slice_get rows i ≡ Some r
    → key_lt r.0 k ≡ true) → ((i : ℕ) (r : Row) → n ≤ i → slice_get rows i ≡ Some r → key_lt r.0 k ≡ false) → IsRowIndex k rows n
index_from k [] zero h below above = tt
index_from k [] (suc n) h below above = absurd (omega arith)
index_from k (x ∷ rows) zero h below above = above 0 x (omega arith) refl
index_from k (x ∷ rows) (suc n) h below above = (
  below 0 x (omega arith) refl,
  index_from k rows n (omega arith) (λ i r g. below (suc i) r (omega arith))
      (λ i r g. above (suc i) r (omega arith)),
)

-- what is read at an index within the rows
pub read_at : (rows seen : List Row) (m : ℕ) (r : Row) → rows ≡ seen → m < length seen → r ≡ get_or rows m r → slice_get seen m ≡ Some r
read_at rows seen m r same within read = slice_get_read seen (length seen) m r refl within (subst (λ l. r ≡ get_or l m r) same read)

-- what the index of a key says

-- what a row says of a key
abbrev pub value_if : Option Row → Key → Option ℤ
value_if None k = None
value_if (Some r) k = cond (key_eq r.0 k) (Some r.1) None

-- a key below all rows has no value
pub none_below : (k : Key) (rows : List Row) → IsBelow k rows → contents_of rows k ≡ None
none_below k [] below = refl
none_below k (r ∷ rows) below = ap (λ b. cond b (Some r.1) (contents_of rows k)) (key_eq-above r.0 k below.0) ∙ none_below k rows below.1

below_less : (j k : Key) (rows : List Row) → key_lt j k ≡ true → IsBelow k rows → IsBelow j rows
below_less j k [] h below = tt
below_less j k (r ∷ rows) h below = (key_lt-trans j k r.0 h below.0, below_less j k rows h below.1)

-- the row at the key's index says the key's value
pub contents_at : (k : Key) (rows : List Row) (n : ℕ) → IsByKey rows → IsRowIndex k rows n → contents_of rows k ≡ value_if
    (slice_get rows n) k
contents_at k [] zero rising index = refl
contents_at k [] (suc n) rising index = absurd index
contents_at k (r ∷ rows) zero rising index = both (key_eq r.0 k) refl where
  both : (t : Bool) → key_eq r.0 k ≡ t → cond (key_eq r.0 k) (Some r.1) (contents_of rows k) ≡ cond (key_eq r.0 k) (Some r.1) None
  both true e = rw e refl
  both false e = rw e (none_below k rows (below_less k r.0 rows (key_lt-other r.0 k index e) rising.0))
contents_at k (r ∷ rows) (suc n) rising index = ap (λ b. cond b (Some r.1) (contents_of rows k)) (key_eq-below r.0 k index.0)
    ∙ contents_at k rows n rising.1 index.1

-- what a row that is written at the key's index changes

under : (k : Key) (v : ℤ) (x : Row) (rows new : List Row) → key_lt x.0 k ≡ true → (j : Key) → contents_of new j ≡ put_in
    (contents_of rows) k v j → contents_of (x ∷ new) j ≡ put_in (contents_of (x ∷ rows)) k v j
under k v x rows new less j rest = both (key_eq x.0 j) refl where
  both : (t : Bool) → key_eq x.0 j ≡ t → cond (key_eq x.0 j) (Some x.1) (contents_of new j) ≡ cond (key_eq k j) (Some v)
      (cond (key_eq x.0 j) (Some x.1) (contents_of rows j))
  both true e = rw (e, subst (λ i. key_eq k i ≡ false) (key_eq-true x.0 j e) (key_eq-above k x.0 less)) refl
  both false e = rw e rest

-- in place of one with the same key
pub set_contents : (k : Key) (v : ℤ) (rows : List Row) (n : ℕ) (r : Row) → IsRowIndex k rows n → slice_get rows n ≡ Some r → r.0 ≡ k
    → (j : Key) → contents_of (slice_set rows n (k, v)) j ≡ put_in (contents_of rows) k v j
set_contents k v [] n r index at same j = absurd (cc)
set_contents k v (x ∷ rows) zero r index at same j = both (key_eq k j) refl where
  first : x.0 ≡ k
  first = ap (λ (y : Row). y.0) (same_Some _ _ at) ∙ same

  both : (t : Bool) → key_eq k j ≡ t → cond (key_eq k j) (Some v) (contents_of rows j) ≡ cond (key_eq k j) (Some v)
      (cond (key_eq x.0 j) (Some x.1) (contents_of rows j))
  both true e = rw e refl
  both false e = rw (first, e) refl
set_contents k v (x ∷ rows) (suc n) r index at same j = under k v x rows (slice_set rows n (k, v)) index.0 j
    (set_contents k v rows n r index.1 at same j)

-- or as a new one
pub insert_contents : (k : Key) (v : ℤ) (rows : List Row) (n : ℕ) → IsRowIndex k rows n → (j : Key)
    → contents_of (insert rows n (k, v)) j ≡ put_in (contents_of rows) k v j
insert_contents k v [] zero index j = refl
insert_contents k v [] (suc n) index j = absurd index
insert_contents k v (x ∷ rows) zero index j = refl
insert_contents k v (x ∷ rows) (suc n) index j = under k v x rows (insert rows n (k, v)) index.0 j (insert_contents k v rows n index.1 j)

set_below : (i k : Key) (v : ℤ) (rows : List Row) (n : ℕ) (r : Row) → slice_get rows n ≡ Some r → r.0 ≡ k → IsBelow i rows
    → IsBelow i (slice_set rows n (k, v))
set_below i k v [] n r at same below = absurd (cc)
set_below i k v (x ∷ rows) zero r at same below =
    (subst (λ j. key_lt i j ≡ true) (ap (λ (y : Row). y.0) (same_Some _ _ at) ∙ same) below.0, below.1)
set_below i k v (x ∷ rows) (suc n) r at same below = (below.0, set_below i k v rows n r at same below.1)

-- rows stay by key, and of values
pub set_by_key : (k : Key) (v : ℤ) (rows : List Row) (n : ℕ) (r : Row) → slice_get rows n ≡ Some r → r.0 ≡ k → IsByKey rows
    → IsByKey (slice_set rows n (k, v))
set_by_key k v [] n r at same rising = absurd (cc)
set_by_key k v (x ∷ rows) zero r at same rising =
    (subst (λ i. IsBelow i rows) (ap (λ (y : Row). y.0) (same_Some _ _ at) ∙ same) rising.0, rising.1)
set_by_key k v (x ∷ rows) (suc n) r at same rising = (set_below x.0 k v rows n r at same rising.0, set_by_key k v rows n r at same rising.1)

insert_below : (i k : Key) (v : ℤ) (rows : List Row) (n : ℕ) → key_lt i k ≡ true → IsRowIndex k rows n → IsBelow i rows
    → IsBelow i (insert rows n (k, v))
insert_below i k v [] zero less index below = (less, tt)
insert_below i k v [] (suc n) less index below = absurd index
insert_below i k v (x ∷ rows) zero less index below = (less, below)
insert_below i k v (x ∷ rows) (suc n) less index below = (below.0, insert_below i k v rows n less index.1 below.1)

pub insert_by_key : (k : Key) (v : ℤ) (rows : List Row) (n : ℕ) → IsRowIndex k rows n
    → ((r : Row) → slice_get rows n ≡ Some r → key_eq r.0 k ≡ false) → IsByKey rows → IsByKey (insert rows n (k, v))
insert_by_key k v [] zero index new rising = (tt, tt)
insert_by_key k v [] (suc n) index new rising = absurd index
insert_by_key k v (x ∷ rows) zero index new rising =
    let less = key_lt-other x.0 k index (new x refl) in
    ((less, below_less k x.0 rows less rising.0), rising)
insert_by_key k v (x ∷ rows) (suc n) index new rising =
    (insert_below x.0 k v rows n index.0 index.1 rising.0, insert_by_key k v rows n index.1 new rising.1)

pub set_values : (k : Key) (v : ℤ) (rows : List Row) (n : ℕ) → IsValue v → HasValues rows → HasValues (slice_set rows n (k, v))
set_values k v [] n h all = all
set_values k v (x ∷ rows) zero h all = (h, all.1)
set_values k v (x ∷ rows) (suc n) h all = (all.0, set_values k v rows n h all.1)

pub insert_values : (k : Key) (v : ℤ) (rows : List Row) (n : ℕ) → IsRowIndex k rows n → IsValue v → HasValues rows
    → HasValues (insert rows n (k, v))
insert_values k v [] zero index h all = (h, tt)
insert_values k v [] (suc n) index h all = absurd index
insert_values k v (x ∷ rows) zero index h all = (h, all)
insert_values k v (x ∷ rows) (suc n) index h all = (all.0, insert_values k v rows n index.1 h all.1)

-- an index is not past the end
pub index_within : (k : Key) (rows : List Row) (n : ℕ) → IsRowIndex k rows n → n ≤ length rows
index_within k rows zero index = omega arith
index_within k [] (suc n) index = absurd index
index_within k (x ∷ rows) (suc n) index = let h = index_within k rows n index.1 in omega arith

-- what is found there

pub found_index : (k : Key) (rows : List Row) (n : ℕ) (r : Row) → IsRowIndex k rows n → slice_get rows n ≡ Some r → key_eq r.0 k ≡ true
    → IsFound k rows (Ok n)
found_index k rows n r index at e = (index, r.1, at ∙ ap (λ i. Some (i, r.1)) (key_eq-true r.0 k e))

pub other_index : (k : Key) (rows : List Row) (n : ℕ) (r : Row) → IsRowIndex k rows n → slice_get rows n ≡ Some r
    → key_eq r.0 k ≡ false → IsFound k rows (Err n)
other_index k rows n r index at e = (index, λ q at'. subst (λ (y : Row). key_eq y.0 k ≡ false) (same_Some _ _ (sym at ∙ at')) e)

pub past_index : (k : Key) (rows : List Row) (n : ℕ) → IsRowIndex k rows n → length rows ≤ n → IsFound k rows (Err n)
past_index k rows n index past = (index, λ q at. let h = slice_get_within rows n q at in absurd (omega arith))

-- the key's value, by its row
pub value_found : (k : Key) (rows : List Row) (n : ℕ) (v : ℤ) → IsByKey rows → IsRowIndex k rows n → slice_get rows n ≡ Some (k, v)
    → Some v ≡ contents_of rows k
value_found k rows n v rising index at = sym (contents_at k rows n rising index ∙ ap (λ o. value_if o k) at
    ∙ ap (λ b. cond b (Some v) None) (key_eq-refl k))

-- it has none where its index is another's
pub value_missing : (k : Key) (rows : List Row) (n : ℕ) → IsByKey rows → IsRowIndex k rows n
    → ((r : Row) → slice_get rows n ≡ Some r → key_eq r.0 k ≡ false) → None ≡ contents_of rows k
value_missing k rows n rising index other = sym (contents_at k rows n rising index ∙ both (slice_get rows n) refl) where
  both : (o : Option Row) → slice_get rows n ≡ o → value_if (slice_get rows n) k ≡ None
  both None e = ap (λ o. value_if o k) e
  both (Some r) e = ap (λ o. value_if o k) e ∙ ap (λ b. cond b (Some r.1) None) (other r e)

-- the rows afterwards, by what was found in the rows before

pub set_rows : (k : Key) (v w : ℤ) (rows seen : List Row) (n : ℕ) (old : ℤ) → w ≡ v → rows ≡ seen → slice_get seen n ≡ Some (k, old)
    → IsValue v → IsByKey rows × HasValues rows → IsByKey (slice_set rows n (k, w)) × HasValues (slice_set rows n (k, w))
set_rows k v w rows seen n old value same at fits all =
    subst (λ z. IsByKey (slice_set rows n (k, z)) × HasValues (slice_set rows n (k, z))) (sym value)
    (set_by_key k v rows n (k, old) (ap (λ l. slice_get l n) same ∙ at) refl all.0, set_values k v rows n fits all.1)

pub insert_rows : (k : Key) (v w : ℤ) (rows seen new : List Row) (n : ℕ) → w ≡ v → rows ≡ seen → new ≡ insert rows n (k, w)
    → IsFound k seen (Err n) → IsValue v → IsByKey rows × HasValues rows → IsByKey new × HasValues new
insert_rows k v w rows seen new n value same is found fits all =
    subst (λ l. IsByKey l × HasValues l) (sym (is ∙ ap (λ z. insert rows n (k, z)) value)) (
      insert_by_key k v rows n index (λ r at. found.1 r (ap (λ l. slice_get l n) (sym same) ∙ at)) all.0,
      insert_values k v rows n index fits all.1,
    ) where
      index : IsRowIndex k rows n
      index = subst (λ l. IsRowIndex k l n) (sym same) found.0

pub set_reported : (k : Key) (v w : ℤ) (rows seen : List Row) (n : ℕ) (old : ℤ) → w ≡ v → rows ≡ seen → IsRowIndex k seen n
    → slice_get seen n ≡ Some (k, old) → (j : Key) → contents_of (slice_set rows n (k, w)) j ≡ put_in (contents_of seen) k v j
set_reported k v w rows seen n old value same index at j =
    ap (λ l. contents_of (slice_set l n (k, w)) j) same ∙ ap (λ z. contents_of (slice_set seen n (k, z)) j) value
    ∙ set_contents k v seen n (k, old) index at refl j

pub insert_reported : (k : Key) (v w : ℤ) (rows seen new : List Row) (n : ℕ) → w ≡ v → rows ≡ seen → new ≡ insert rows n (k, w)
    → IsRowIndex k seen n → (j : Key) → contents_of new j ≡ put_in (contents_of seen) k v j
insert_reported k v w rows seen new n value same is index j =
    ap (λ l. contents_of l j) (is ∙ ap (λ l. insert l n (k, w)) same ∙ ap (λ z. insert seen n (k, z)) value)
    ∙ insert_contents k v seen n index j
