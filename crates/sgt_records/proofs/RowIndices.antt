-- The indices of rows by their keys.
use Rattle.std.proofs.Common.{◌≡◌, ℕ, zero, suc, ◌<◌, ◌+◌, arith, ℤ, Bool, true, false, cond, List, [], ◌∷◌, ◌++◌, length, length-take-le, map, take, get_or, Option, Some, None, slice_get, refl, sym, ap, ◌∙◌, subst}
use Rattle.std.proofs.lemmas.Bool.{true≢false}
use Rattle.std.proofs.lemmas.List.{map-append, take_more}
use Rattle.std.proofs.lemmas.Option.{same_Some}
use Rattle.std.specs.Option.{is_some, option_and_then, option_map, option_or}
use Rattle.std.specs.Ordering.{eq_by_cmp}
use Rattle.std.specs.BTreeMap.{BTreeMap, get}
use Rattle.std.specs.Map.{update_all}
use Rattle.sgt_model.specs.Contents.{Key, key_eq}
use Rattle.sgt_model.specs.Databases.{Row, contents_of, key_cmp, IsBelow, IsByKey}
use Rattle.sgt_model.proofs.Rows.{below_at, key_eq-below}
use Rattle.sgt_model.proofs.Stores.{key_eq-true, key_eq-refl}
use Rattle.sgt_records.specs.declared.record.Record.{Record}
use Rattle.sgt_records.specs.Indices.{AreIndices, AreKeys}
use Rattle.sgt_records.specs.RowRecords.{record_with}
use Rattle.sgt_records.specs.Slots.{written_by}
use Rattle.sgt_records.specs.declared.written.Written.TheVariants.{Nothing}
use Rattle.sgt_records.proofs.SettledValues.{same_key}

-- the index of a key's row
abbrev pub position : List Row → Key → Option ℕ
position [] k = None
position (r ∷ rows) k = cond (key_eq r.0 k) (Some 0) (option_map suc (position rows k))

-- the keys of rows with their indices, from n on
abbrev pub places : ℕ → List Row → List (Key × ℕ)
places n [] = []
places n (r ∷ rows) = (r.0, n) ∷ places (suc n) rows

-- the record of a row
abbrev pub row_record : Row → Record
row_record r = record_with r.1

-- the key of a row
abbrev pub row_key : Row → Key
row_key r = r.0

-- one row more
pub places_more : (n : ℕ) (rows : List Row) (r : Row) → places n (rows ++ r ∷ []) ≡ places n rows ++ (r.0, n + length rows) ∷ []
places_more n [] r = ap (λ i. (r.0, i) ∷ []) (omega arith)
places_more n (x ∷ rows) r = ap (λ l. (x.0, n) ∷ l) (places_more (suc n) rows r
    ∙ ap (λ i. places (suc n) rows ++ (r.0, i) ∷ []) (omega arith))

-- the same, as a loop counts
pub places_next : (rows : List Row) (i : ℕ) (r : Row) → i < length rows → r ≡ get_or rows i r
    → places 0 (take (i + 1) rows) ≡ places 0 (take i rows) ++ (r.0, i) ∷ []
places_next rows i r within is =
    let h = length-take-le i rows (omega (arith, within)) in
    let count : 0 + length (take i rows) ≡ i = omega (arith, h) in
    ap (places 0) (take_more rows i r within) ∙ places_more 0 (take i rows) (get_or rows i r)
    ∙ ap (λ n. places 0 (take i rows) ++ ((get_or rows i r).0, n) ∷ []) count
    ∙ ap (λ (q : Row). places 0 (take i rows) ++ (q.0, i) ∷ []) (sym is)

pub map_next : {A : Type 0} (f : Row → A) (rows : List Row) (i : ℕ) (r : Row) (x : A) → i < length rows → r ≡ get_or rows i r → x ≡ f r
    → map f (take (i + 1) rows) ≡ map f (take i rows) ++ x ∷ []
map_next f rows i r x within is same = ap (map f) (take_more rows i r within) ∙ map-append f (take i rows) (get_or rows i r ∷ [])
    ∙ ap (λ y. map f (take i rows) ++ y ∷ []) (ap f (sym is) ∙ sym same)

-- a key below all rows has none
none_there : (k : Key) (rows : List Row) → IsBelow k rows → position rows k ≡ None
none_there k [] below = refl
none_there k (r ∷ rows) below = ap (λ b. cond b (Some 0) (option_map suc (position rows k))) (other (key_eq r.0 k) refl)
    ∙ ap (option_map suc) (none_there k rows below.1)
  where
    other : (b : Bool) → key_eq r.0 k ≡ b → key_eq r.0 k ≡ false
    other false is = is
    other true is = absurd (true≢false (sym (subst (λ j. key_eq k j ≡ true) (sym (key_eq-true r.0 k is)) (key_eq-refl k))
        ∙ key_eq-below k r.0 below.0))

-- a row at a position has the key
pub there : (rows : List Row) (k : Key) (p : ℕ) → position rows k ≡ Some p → (v : ℤ) × (slice_get rows p ≡ Some (k, v))
there [] k p at = absurd (cc)
there (r ∷ rows) k p at = go (there rows k) (key_eq r.0 k) refl (position rows k) refl at
  where
    go : ((q : ℕ) → position rows k ≡ Some q → (v : ℤ) × (slice_get rows q ≡ Some (k, v))) → (b : Bool) → key_eq r.0 k ≡ b → (o : Option ℕ) → position rows k ≡ o → cond b (Some 0) (option_map suc o) ≡ Some p
        → (v : ℤ) × (slice_get (r ∷ rows) p ≡ Some (k, v))
    go rest true is o was found = subst (λ q. (v : ℤ) × (slice_get (r ∷ rows) q ≡ Some (k, v))) (same_Some 0 p found)
        (r.1, ap (λ j. Some (j, r.1)) (key_eq-true r.0 k is))
    go rest false is None was found = absurd (cc)
    go rest false is (Some q) was found = subst (λ i. (v : ℤ) × (slice_get (r ∷ rows) i ≡ Some (k, v))) (same_Some (suc q) p found)
        (rest q was)

-- the position of a row is that of its key
pub position_at : (rows : List Row) (p : ℕ) (r : Row) → IsByKey rows → slice_get rows p ≡ Some r → position rows r.0 ≡ Some p
position_at [] p r ordered at = absurd (cc)
position_at (x ∷ rows) zero r ordered at =
    ap (λ b. cond b (Some 0) (option_map suc (position rows r.0))) (ap (λ (y : Row). key_eq y.0 r.0) (same_Some x r at) ∙ key_eq-refl r.0)
position_at (x ∷ rows) (suc p) r ordered at =
    ap (λ b. cond b (Some 0) (option_map suc (position rows r.0))) (key_eq-below x.0 r.0 (below_at x.0 rows p r ordered.0 at))
    ∙ ap (option_map suc) (position_at rows p r ordered.1 at)

-- within the rows
slice_within : {A : Type 0} (xs : List A) (p : ℕ) (x : A) → slice_get xs p ≡ Some x → p < length xs
slice_within [] p x at = absurd (cc)
slice_within (y ∷ xs) zero x at = omega arith
slice_within (y ∷ xs) (suc p) x at = let h = slice_within xs p x at in omega (arith, h)

-- a map of the places says each position
pub updated_places : (n : ℕ) (rows : List Row) (f : Key → Option ℕ) → IsByKey rows → (k : Key)
    → update_all (eq_by_cmp key_cmp) f (places n rows) k ≡ option_or (option_map (λ i. n + i) (position rows k)) (f k)
updated_places n [] f ordered k = refl
updated_places n (r ∷ rows) f ordered k =
    updated_places (suc n) rows (λ q. cond (eq_by_cmp key_cmp r.0 q) (Some n) (f q)) ordered.1 k
    ∙ ap (λ b. option_or (option_map (λ i. suc n + i) (position rows k)) (cond b (Some n) (f k))) (same_key r.0 k)
    ∙ go (key_eq r.0 k) (position rows k) (λ is. subst (λ j. position rows j ≡ None) (key_eq-true r.0 k is) (none_there r.0 rows ordered.0))
  where
    go : (b : Bool) (o : Option ℕ) → (b ≡ true → o ≡ None)
        → option_or (option_map (λ i. suc n + i) o) (cond b (Some n) (f k))
        ≡ option_or (option_map (λ i. n + i) (cond b (Some 0) (option_map suc o))) (f k)
    go true None none = ap (λ i. Some i) (omega arith)
    go true (Some q) none = absurd (true≢false (sym (ap is_some (sym (none refl)))))
    go false None none = refl
    go false (Some q) none = ap (λ i. Some i) (omega arith)

module _ (rows : List Row) (ordered : IsByKey rows) (m : BTreeMap Key ℕ)
    (returned : (k : Key) → get key_cmp m k ≡ update_all (eq_by_cmp key_cmp) (λ (_ : Key). None) (places 0 rows) k) where
  -- the map has the positions
  pub is_position : (k : Key) → get key_cmp m k ≡ position rows k
  is_position k = returned k ∙ updated_places 0 rows (λ (_ : Key). None) ordered k ∙ go (position rows k)
    where
      go : (o : Option ℕ) → option_or (option_map (λ i. 0 + i) o) None ≡ o
      go None = refl
      go (Some q) = ap (λ i. Some i) (omega arith)

  row_there : (k : Key) (p : ℕ) → get key_cmp m k ≡ Some p → (v : ℤ) × (slice_get rows p ≡ Some (k, v))
  row_there k p at = there rows k p (sym (is_position k) ∙ at)

  pub rows_indices : (records : List Record) → records ≡ map row_record rows → AreIndices m records
  rows_indices records are = record {
    within = λ k p at. subst (λ n. p < n) (sym (ap length are ∙ as_many rows)) (slice_within rows p _ (row_there k p at).1);
    apart = λ j k p at at'. ap (λ (r : Row). r.0) (same_Some _ _ (sym (row_there j p at).1 ∙ (row_there k p at').1));
  }
    where
      as_many : (rows : List Row) → length (map row_record rows) ≡ length rows
      as_many [] = refl
      as_many (r ∷ rows) = ap suc (as_many rows)

  pub rows_keys : (keys : List Key) (count : ℕ) → keys ≡ map row_key rows → count ≡ length rows → AreKeys m keys count
  rows_keys keys count are same = record {
    as_many = ap length are ∙ as_many rows ∙ sym same;
    are_indexed = λ k p at. is_position k ∙ one k p (sym (ap (λ l. slice_get l p) are) ∙ at);
  }
    where
      as_many : (rows : List Row) → length (map row_key rows) ≡ length rows
      as_many [] = refl
      as_many (r ∷ rows) = ap suc (as_many rows)

      row_at : (rows : List Row) (k : Key) (p : ℕ) → slice_get (map row_key rows) p ≡ Some k → (v : ℤ) × (slice_get rows p ≡ Some (k, v))
      row_at [] k p at = absurd (cc)
      row_at (r ∷ rows) k zero at = (r.1, ap (λ j. Some (j, r.1)) (same_Some r.0 k at))
      row_at (r ∷ rows) k (suc p) at = row_at rows k p at

      one : (k : Key) (p : ℕ) → slice_get (map row_key rows) p ≡ Some k → position rows k ≡ Some p
      one k p at = position_at rows p (k, (row_at rows k p at).0) ordered (row_at rows k p at).1

  -- and the records those of the contents
  pub rows_records : (records : List Record) → records ≡ map row_record rows → (k : Key)
      → option_and_then (slice_get records) (get key_cmp m k) ≡ option_map record_with (contents_of rows k)
  rows_records records are k = ap (λ l. option_and_then (slice_get l) (get key_cmp m k)) are
      ∙ ap (option_and_then (slice_get (map row_record rows))) (is_position k) ∙ go rows
    where
      go : (rows : List Row) → option_and_then (slice_get (map row_record rows)) (position rows k) ≡ option_map record_with (contents_of rows k)
      go [] = refl
      go (r ∷ rows) = one (key_eq r.0 k) (position rows k) (go rows)
        where
          one : (b : Bool) (o : Option ℕ) → option_and_then (slice_get (map row_record rows)) o ≡ option_map record_with (contents_of rows k)
              → option_and_then (slice_get (row_record r ∷ map row_record rows)) (cond b (Some 0) (option_map suc o))
              ≡ option_map record_with (cond b (Some r.1) (contents_of rows k))
          one true o is = refl
          one false None is = is
          one false (Some q) is = is

-- the record of a value has nothing written above it
pub row_unwritten : (o : Option ℤ) → written_by (option_map record_with o) ≡ Nothing
row_unwritten None = refl
row_unwritten (Some v) = refl

-- and has that value
pub row_committed : (o : Option ℤ) → option_and_then (λ (r : Record). r.committed) (option_map record_with o) ≡ o
row_committed None = refl
row_committed (Some v) = refl
