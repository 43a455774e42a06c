-- What a record that is replaced or added changes for the keys of a table.
use Rattle.std.proofs.Common.{◌≡◌, ◌≢◌, ℕ, zero, suc, ◌<◌, ◌+◌, ◌-◌, arith, Bool, true, false, cond, nat_eq, List, [], ◌∷◌, ◌++◌, length, get_or, ◌⊎◌, inl, inr, Option, Some, None, Result, Ok, Err, OnOk, OnErr, is_err, slice_get, slice_set, refl, sym, ap, ◌∙◌, subst, unwrap_or}
use Rattle.std.proofs.lemmas.Bool.{true≢false, eqb-true, eqb-false}
use Rattle.std.proofs.lemmas.Option.{same_Some, slice_get-get_or, slice_get_within}
use Rattle.std.specs.Option.{is_some, option_and_then}
use Rattle.std.specs.BTreeMap.{BTreeMap, get, Updates}
use Rattle.sgt_model.specs.Contents.{Key, key_eq}
use Rattle.sgt_model.specs.Databases.{key_cmp}
use Rattle.sgt_model.proofs.Stores.{key_eq-true, key_eq-refl}
use Rattle.sgt_records.specs.declared.record.Record.{Record}
use Rattle.sgt_records.specs.Indices.{AreIndices, AreKeys}
use Rattle.sgt_records.proofs.SettledValues.{same_key}

-- on lists

-- an element that is set
set_there : (xs : List Record) (i : ℕ) (x : Record) → i < length xs → slice_get (slice_set xs i x) i ≡ Some x
set_there [] i x within = absurd (omega arith)
set_there (y ∷ xs) zero x within = refl
set_there (y ∷ xs) (suc i) x within = set_there xs i x (omega arith)

-- and the others
set_elsewhere : (xs : List Record) (i j : ℕ) (x : Record) → i ≢ j → slice_get (slice_set xs i x) j ≡ slice_get xs j
set_elsewhere [] i j x other = refl
set_elsewhere (y ∷ xs) zero zero x other = absurd (other refl)
set_elsewhere (y ∷ xs) zero (suc j) x other = refl
set_elsewhere (y ∷ xs) (suc i) zero x other = refl
set_elsewhere (y ∷ xs) (suc i) (suc j) x other = set_elsewhere xs i j x (λ same. other (ap suc same))

-- those before one that is added
before_added : (xs : List Record) (x : Record) (i : ℕ) → i < length xs → slice_get (xs ++ x ∷ []) i ≡ slice_get xs i
before_added [] x i within = absurd (omega arith)
before_added (y ∷ xs) x zero within = refl
before_added (y ∷ xs) x (suc i) within = before_added xs x i (omega arith)

-- and that one
added : (xs : List Record) (x : Record) → slice_get (xs ++ x ∷ []) (length xs) ≡ Some x
added [] x = refl
added (y ∷ xs) x = added xs x

added_length : (xs : List Record) (x : Record) → length (xs ++ x ∷ []) ≡ length xs + 1
added_length [] x = refl
added_length (y ∷ xs) x = let rest = added_length xs x in omega (arith, rest)

-- of a list with an element more, each stands in the list, or is that one
one_of : {A : Type 0} (xs : List A) (x y : A) (p : ℕ) → slice_get (xs ++ x ∷ []) p ≡ Some y
    → (slice_get xs p ≡ Some y) ⊎ ((p ≡ length xs) × (x ≡ y))
one_of [] x y zero at = inr (refl, same_Some x y at)
one_of [] x y (suc p) at = inl at
one_of (z ∷ xs) x y zero at = inl at
one_of (z ∷ xs) x y (suc p) at = go (one_of xs x y p at)
  where
    go : (slice_get xs p ≡ Some y) ⊎ ((p ≡ length xs) × (x ≡ y))
        → (slice_get xs p ≡ Some y) ⊎ ((suc p ≡ suc (length xs)) × (x ≡ y))
    go (inl before) = inl before
    go (inr last) = inr (ap suc last.0, last.1)

-- one index
same_index : (p q : ℕ) → Some p ≡ Some q → p ≡ q
same_index p q e = ap (λ (o : Option ℕ). unwrap_or o p) e

-- a record that is put
module _ (indices : BTreeMap Key ℕ) (records : List Record) (are : AreIndices indices records) (key : Key) (p : ℕ)
    (at : get key_cmp indices key ≡ Some p) (r : Record) where
  -- it is the key's, and every other is as before
  pub put_returned : (k : Key) → option_and_then (slice_get (slice_set records p r)) (get key_cmp indices k)
      ≡ cond (key_eq key k) (Some r) (option_and_then (slice_get records) (get key_cmp indices k))
  put_returned k = go (get key_cmp indices k) refl (key_eq key k) refl
    where
      go : (o : Option ℕ) → get key_cmp indices k ≡ o → (e : Bool) → key_eq key k ≡ e
          → option_and_then (slice_get (slice_set records p r)) o ≡ cond e (Some r) (option_and_then (slice_get records) o)
      go None is true e = absurd (true≢false (sym (ap is_some (sym is ∙ (ap (get key_cmp indices) (sym (key_eq-true key k e)) ∙ at)))))
      go None is false e = refl
      go (Some q) is true e =
          let same : p ≡ q = same_index p q (sym at ∙ (ap (get key_cmp indices) (key_eq-true key k e) ∙ is)) in
          subst (λ n. slice_get (slice_set records p r) n ≡ Some r) same (set_there records p r (are.within key p at))
      go (Some q) is false e = set_elsewhere records p q r (λ same. true≢false
          (sym (subst (λ j. key_eq key j ≡ true) (are.apart key k p at (is ∙ ap Some (sym same))) (key_eq-refl key)) ∙ e))

-- a record that is added
module _ (old new : BTreeMap Key ℕ) (records : List Record) (are : AreIndices old records) (key : Key) (r : Record)
    (returned : Updates key_cmp old new key (Some (length records))) where
  pub index_returned : (k : Key) → get key_cmp new k ≡ cond (key_eq key k) (Some (length records)) (get key_cmp old k)
  index_returned k = returned.0 k ∙ ap (λ b. cond b (Some (length records)) (get key_cmp old k)) (same_key key k)

  -- another key's index is as before
  pub others_returned : (k : Key) → key_eq key k ≡ false → get key_cmp new k ≡ get key_cmp old k
  others_returned k other = index_returned k ∙ ap (λ b. cond b (Some (length records)) (get key_cmp old k)) other

  -- and where it had none, the others keep theirs
  pub indices_stay : get key_cmp old key ≡ None → (k : Key) (p : ℕ) → get key_cmp old k ≡ Some p → get key_cmp new k ≡ Some p
  indices_stay absent k p is = index_returned k ∙ go (key_eq key k) refl
    where
      go : (e : Bool) → key_eq key k ≡ e → cond e (Some (length records)) (get key_cmp old k) ≡ Some p
      go true e = absurd (true≢false (ap is_some (sym is ∙ (ap (get key_cmp old) (sym (key_eq-true key k e)) ∙ absent))))
      go false e = is

  -- and each record has a key
  pub added_keys : (keys : List Key) (count : ℕ) → count ≡ length records → AreKeys old keys count → get key_cmp old key ≡ None
      → AreKeys new (keys ++ key ∷ []) (length (records ++ r ∷ []))
  added_keys keys count same have absent = record {
    as_many = length_more keys key ∙ ap (λ n. n + 1) (have.as_many ∙ same) ∙ sym (added_length records r);
    are_indexed = λ k p at. one k p (one_of keys key k p at);
  }
    where
      length_more : {A : Type 0} (xs : List A) (x : A) → length (xs ++ x ∷ []) ≡ length xs + 1
      length_more [] x = refl
      length_more (y ∷ xs) x = let rest = length_more xs x in omega (arith, rest)

      one : (k : Key) (p : ℕ) → (slice_get keys p ≡ Some k) ⊎ ((p ≡ length keys) × (key ≡ k)) → get key_cmp new k ≡ Some p
      one k p (inl before) = indices_stay absent k p (have.are_indexed k p before)
      one k p (inr last) = index_returned k
          ∙ ap (λ b. cond b (Some (length records)) (get key_cmp old k)) (subst (λ j. key_eq key j ≡ true) last.1 (key_eq-refl key))
          ∙ ap (λ n. Some n) (sym (last.0 ∙ (have.as_many ∙ same)))

  pub added_indices : AreIndices new (records ++ r ∷ [])
  added_indices = record {
    within = λ k p is. subst (λ n. p < n) (sym (added_length records r)) (low k p (key_eq key k) (sym (index_returned k) ∙ is));
    apart = λ j k p at at'. one j k p (key_eq key j) (key_eq key k) refl refl (sym (index_returned j) ∙ at) (sym (index_returned k) ∙ at');
  }
    where
      low : (k : Key) (p : ℕ) (e : Bool) → cond e (Some (length records)) (get key_cmp old k) ≡ Some p → p < length records + 1
      low k p true is = let same = same_index (length records) p is in omega (arith, same)
      low k p false is = let lt = are.within k p is in omega (arith, lt)

      one : (j k : Key) (p : ℕ) (d e : Bool) → key_eq key j ≡ d → key_eq key k ≡ e
          → cond d (Some (length records)) (get key_cmp old j) ≡ Some p → cond e (Some (length records)) (get key_cmp old k) ≡ Some p
          → j ≡ k
      one j k p true true d e at at' = sym (key_eq-true key j d) ∙ key_eq-true key k e
      one j k p true false d e at at' =
          let lt = are.within k p at' in let same = same_index (length records) p at in absurd (omega (arith, lt, same))
      one j k p false true d e at at' =
          let lt = are.within j p at in let same = same_index (length records) p at' in absurd (omega (arith, lt, same))
      one j k p false false d e at at' = are.apart j k p at at'

  pub added_returned : (k : Key) → option_and_then (slice_get (records ++ r ∷ [])) (get key_cmp new k)
      ≡ cond (key_eq key k) (Some r) (option_and_then (slice_get records) (get key_cmp old k))
  added_returned k = ap (option_and_then (slice_get (records ++ r ∷ []))) (index_returned k) ∙ go (key_eq key k) (get key_cmp old k) refl
    where
      go : (e : Bool) (o : Option ℕ) → get key_cmp old k ≡ o
          → option_and_then (slice_get (records ++ r ∷ [])) (cond e (Some (length records)) o)
          ≡ cond e (Some r) (option_and_then (slice_get records) o)
      go true o is = added records r
      go false None is = refl
      go false (Some p) is = before_added records r p (are.within k p is)

-- a key's index that is put back
module _ (old mid new : BTreeMap Key ℕ) (key : Key) (p q : ℕ) (at : get key_cmp old key ≡ Some p)
    (put : Updates key_cmp old mid key (Some q)) (back : Updates key_cmp mid new key (Some p)) where
  -- each index is as before
  pub index_back : (k : Key) → get key_cmp new k ≡ get key_cmp old k
  index_back k = back.0 k
      ∙ (ap (λ b. cond b (Some p) (get key_cmp mid k)) (same_key key k)
      ∙ (ap (λ o. cond (key_eq key k) (Some p) o) (put.0 k ∙ ap (λ b. cond b (Some q) (get key_cmp old k)) (same_key key k))
      ∙ go (key_eq key k) refl))
    where
      go : (e : Bool) → key_eq key k ≡ e → cond e (Some p) (cond e (Some q) (get key_cmp old k)) ≡ get key_cmp old k
      go true e = sym at ∙ ap (get key_cmp old) (key_eq-true key k e)
      go false e = refl

  pub indices_back : (records : List Record) → AreIndices old records → AreIndices new records
  indices_back records are = record {
    within = λ k n is. are.within k n (sym (index_back k) ∙ is);
    apart = λ j k n is is'. are.apart j k n (sym (index_back j) ∙ is) (sym (index_back k) ∙ is');
  }

  pub keys_back : (keys : List Key) (count : ℕ) → AreKeys old keys count → AreKeys new keys count
  keys_back keys count have = record {
    as_many = have.as_many;
    are_indexed = λ k n is. index_back k ∙ have.are_indexed k n is;
  }

-- what a clause says of a result
pub on_ok : {T F P : Type 0} (r : Result T F) → is_err r ≡ false → OnOk r P → P
on_ok (Ok x) is p = p
on_ok (Err y) is p = absurd (true≢false is)

pub on_err : {T F P : Type 0} (r : Result T F) → is_err r ≡ true → OnErr r P → P
on_err (Ok x) is p = absurd (true≢false (sym is))
on_err (Err y) is p = p

-- ---- a record that is dropped: the last one takes its index

-- the last element has taken the place of one that left
pub record TakesLast {A : Type 0} (old new : List A) (index last : ℕ) : Type 0 where
  pub count : length new ≡ last
  pub was : last + 1 ≡ length old
  pub here : index < last → slice_get new index ≡ slice_get old last
  pub others : (p : ℕ) → p ≢ index → p < last → slice_get new p ≡ slice_get old p

-- the same, as the vector's call says it
pub takes_last : {A : Type 0} (old new : List A) (index last : ℕ) (d : A) → length new + 1 ≡ length old → last + 1 ≡ length old
    → ((x : A) → index + 1 < length old → get_or new index x ≡ get_or old (length old - 1) x)
    → ((p : ℕ) (x : A) → p ≢ index → p + 1 < length old → get_or new p x ≡ get_or old p x)
    → TakesLast old new index last
takes_last old new index last d one was here others = record {
  count = omega (arith, one, was);
  was = was;
  here = λ lt. slice_get-get_or new index d (omega (arith, one, was, lt))
      ∙ (ap (λ x. Some x) (here d (omega (arith, was, lt))
      ∙ ap (λ n. get_or old n d) (omega (arith, was)))
      ∙ sym (slice_get-get_or old last d (omega (arith, was))));
  others = λ p other lt. slice_get-get_or new p d (omega (arith, one, was, lt))
      ∙ (ap (λ x. Some x) (others p d other (omega (arith, was, lt)))
      ∙ sym (slice_get-get_or old p d (omega (arith, was, lt))));
}

module _ (old mid new : BTreeMap Key ℕ) (records left : List Record) (keys keys_left : List Key) (are : AreIndices old records)
    (have : AreKeys old keys (length records)) (key moved : Key) (index last : ℕ) (at : get key_cmp old key ≡ Some index)
    (records_moved : TakesLast records left index last) (keys_moved : TakesLast keys keys_left index last)
    (is_moved : slice_get keys last ≡ Some moved) (put : Updates key_cmp old mid moved (Some index))
    (gone : Updates key_cmp mid new key None) where
  moved_at : get key_cmp old moved ≡ Some last
  moved_at = have.are_indexed moved last is_moved

  -- the index of each key
  index_left : (k : Key) → get key_cmp new k ≡ cond (key_eq key k) None (cond (key_eq moved k) (Some index) (get key_cmp old k))
  index_left k = gone.0 k
      ∙ (ap (λ b. cond b None (get key_cmp mid k)) (same_key key k)
      ∙ ap (λ o. cond (key_eq key k) None o) (put.0 k ∙ ap (λ b. cond b (Some index) (get key_cmp old k)) (same_key moved k)))

  -- that of another key than the last record's comes before it
  below_last : (k : Key) (p : ℕ) → get key_cmp old k ≡ Some p → (moved ≡ k → ⊥) → p < last
  below_last k p is differs = go (nat_eq p last) refl
    where
      go : (e : Bool) → nat_eq p last ≡ e → p < last
      go true e = absurd (differs (are.apart moved k last moved_at (is ∙ ap (λ n. Some n) (eqb-true p last e))))
      go false e = let lt = are.within k p is in let was = records_moved.was in omega (arith, lt, was, eqb-false p last e)

  not_moved : (k : Key) → key_eq moved k ≡ false → moved ≡ k → ⊥
  not_moved k other same = true≢false (sym (subst (λ j. key_eq moved j ≡ true) same (key_eq-refl moved)) ∙ other)

  -- the index that is free is not that of another key
  not_index : (k : Key) (p : ℕ) → get key_cmp old k ≡ Some p → key_eq key k ≡ false → p ≢ index
  not_index k p is other same = true≢false
      (sym (subst (λ j. key_eq key j ≡ true) (are.apart key k index at (is ∙ ap (λ n. Some n) same)) (key_eq-refl key)) ∙ other)

  -- where the last record is another's, it comes before it
  index_below : key_eq key moved ≡ false → index < last
  index_below other = below_last key index at
      (λ same. true≢false (sym (subst (λ j. key_eq j moved ≡ true) same (key_eq-refl moved)) ∙ other))

  is_other : (k : Key) → key_eq key k ≡ false → key_eq moved k ≡ true → key_eq key moved ≡ false
  is_other k other same = subst (λ j. key_eq key j ≡ false) (sym (key_eq-true moved k same)) other

  pub removed_returned : (k : Key) → option_and_then (slice_get left) (get key_cmp new k)
      ≡ cond (key_eq key k) None (option_and_then (slice_get records) (get key_cmp old k))
  removed_returned k = ap (option_and_then (slice_get left)) (index_left k)
      ∙ go (key_eq key k) refl (key_eq moved k) refl (get key_cmp old k) refl
    where
      go : (d : Bool) → key_eq key k ≡ d → (e : Bool) → key_eq moved k ≡ e → (o : Option ℕ) → get key_cmp old k ≡ o
          → option_and_then (slice_get left) (cond d None (cond e (Some index) o))
          ≡ cond d None (option_and_then (slice_get records) o)
      go true d e f o is = refl
      go false d true f o is = records_moved.here (index_below (is_other k d f))
          ∙ ap (option_and_then (slice_get records)) (sym (sym is ∙ (ap (get key_cmp old) (sym (key_eq-true moved k f)) ∙ moved_at)))
      go false d false f None is = refl
      go false d false f (Some p) is = records_moved.others p (not_index k p is d) (below_last k p is (not_moved k f))

  pub removed_indices : AreIndices new left
  removed_indices = record {
    within = λ k p is. subst (λ n. p < n) (sym records_moved.count)
        (low k p (key_eq key k) refl (key_eq moved k) refl (sym (index_left k) ∙ is));
    apart = λ j k p at at'. one j k p (key_eq key j) refl (key_eq moved j) refl (key_eq key k) refl (key_eq moved k) refl
        (sym (index_left j) ∙ at) (sym (index_left k) ∙ at');
  }
    where
      low : (k : Key) (p : ℕ) (d : Bool) → key_eq key k ≡ d → (e : Bool) → key_eq moved k ≡ e
          → cond d None (cond e (Some index) (get key_cmp old k)) ≡ Some p → p < last
      low k p true d e f is = absurd (cc)
      low k p false d true f is = subst (λ n. n < last) (same_index index p is) (index_below (is_other k d f))
      low k p false d false f is = below_last k p is (not_moved k f)

      one : (j k : Key) (p : ℕ) (d : Bool) → key_eq key j ≡ d → (e : Bool) → key_eq moved j ≡ e → (f : Bool) → key_eq key k ≡ f
          → (g : Bool) → key_eq moved k ≡ g → cond d None (cond e (Some index) (get key_cmp old j)) ≡ Some p
          → cond f None (cond g (Some index) (get key_cmp old k)) ≡ Some p → j ≡ k
      one j k p true d e e' f f' g g' is is' = absurd (cc)
      one j k p false d e e' true f' g g' is is' = absurd (cc)
      one j k p false d true e' false f' true g' is is' = sym (key_eq-true moved j e') ∙ key_eq-true moved k g'
      one j k p false d true e' false f' false g' is is' = absurd (not_index k p is' f' (sym (same_index index p is)))
      one j k p false d false e' false f' true g' is is' = absurd (not_index j p is d (sym (same_index index p is')))
      one j k p false d false e' false f' false g' is is' = are.apart j k p is is'

  pub removed_keys : AreKeys new keys_left (length left)
  removed_keys = record {
    as_many = keys_moved.count ∙ sym records_moved.count;
    are_indexed = λ k p is. index_left k ∙ one k p is (subst (λ n. p < n) keys_moved.count (slice_get_within keys_left p k is));
  }
    where
      one : (k : Key) (p : ℕ) → slice_get keys_left p ≡ Some k → p < last
          → cond (key_eq key k) None (cond (key_eq moved k) (Some index) (get key_cmp old k)) ≡ Some p
      one k p is lt = go (nat_eq p index) refl
        where
          -- the one that has moved
          here : p ≡ index → (d : Bool) → key_eq key k ≡ d → (e : Bool) → key_eq moved k ≡ e
              → cond d None (cond e (Some index) (get key_cmp old k)) ≡ Some p
          here same d d' e e' = ends (same_Some k moved (sym is ∙ (ap (slice_get keys_left) same
              ∙ (keys_moved.here (subst (λ n. n < last) same lt) ∙ is_moved)))) d d' e e'
            where
              ends : k ≡ moved → (d : Bool) → key_eq key k ≡ d → (e : Bool) → key_eq moved k ≡ e
                  → cond d None (cond e (Some index) (get key_cmp old k)) ≡ Some p
              ends it true d e e' =
                  let both = same_index index last (sym at ∙ (ap (get key_cmp old) (key_eq-true key k d ∙ it) ∙ moved_at)) in
                  absurd (omega (arith, both, same, lt))
              ends it false d true e' = ap (λ n. Some n) (sym same)
              ends it false d false e' = absurd (not_moved k e' (sym it))

          -- and the others
          there : get key_cmp old k ≡ Some p → p ≢ index → (d : Bool) → key_eq key k ≡ d → (e : Bool) → key_eq moved k ≡ e
              → cond d None (cond e (Some index) (get key_cmp old k)) ≡ Some p
          there found other true d e e' =
              absurd (other (sym (same_index index p (sym at ∙ (ap (get key_cmp old) (key_eq-true key k d) ∙ found)))))
          there found other false d true e' =
              let both = same_index last p (sym moved_at ∙ (ap (get key_cmp old) (key_eq-true moved k e') ∙ found)) in
              absurd (omega (arith, both, lt))
          there found other false d false e' = found

          go : (b : Bool) → nat_eq p index ≡ b → cond (key_eq key k) None (cond (key_eq moved k) (Some index) (get key_cmp old k)) ≡ Some p
          go true b = here (eqb-true p index b) (key_eq key k) refl (key_eq moved k) refl
          go false b =
              let other : p ≢ index = eqb-false p index b in
              there (have.are_indexed k p (sym (keys_moved.others p other lt) ∙ is)) other (key_eq key k) refl (key_eq moved k) refl
