-- The entries of a B-tree, as rows.
use Rattle.std.proofs.Common.{◌≡◌, ℤ, Bool, true, false, cond, ◌||◌, List, [], ◌∷◌, ◌++◌, Option, Some, None, Result, Ok, Err, IfSome, IfOk, refl, sym, ap, ◌∙◌, subst}
use Rattle.std.proofs.lemmas.List.{map-append}
use Rattle.std.proofs.lemmas.List.Folds.{list_any-append}
use Rattle.std.proofs.lemmas.Map.Made.{is_some-lookup}
use Rattle.std.specs.BTreeMap.{BTreeMap, get, is_at, Updates}
use Rattle.std.specs.List.{list_any}
use Rattle.std.specs.Map.{keys_of, lookup}
use Rattle.std.specs.Option.{is_some, option_or}
use Rattle.sgt_model.specs.Numbers.{IsValue}
use Rattle.sgt_model.specs.Contents.{Key, key_eq, put_in}
use Rattle.sgt_model.specs.Databases.{Row, key_cmp, contents_of}
use Rattle.sgt_model.specs.StoredValues.{HoldValues}
use Rattle.sgt_model.proofs.FoundKeys.{same_key, key_back}
use Rattle.sgt_model.proofs.Stores.{key_eq-true}

-- ---- the value of a key

-- entries and then rows: the value of the entries, or else that of the rows
pub contents-append : (entries rows : List Row) (k : Key) → contents_of (entries ++ rows) k
    ≡ option_or (contents_of entries k) (contents_of rows k)
contents-append [] rows k = refl
contents-append (e ∷ es) rows k = ap (λ o. cond (key_eq e.0 k) (Some e.1) o) (contents-append es rows k) ∙ go (key_eq e.0 k)
  where
    go : (b : Bool) → cond b (Some e.1) (option_or (contents_of es k) (contents_of rows k))
        ≡ option_or (cond b (Some e.1) (contents_of es k)) (contents_of rows k)
    go true = refl
    go false = refl

-- a search among entries finds the value of the key
pub lookup_contents : (entries : List Row) (k : Key) → lookup (is_at (key_cmp k)) entries ≡ contents_of entries k
lookup_contents [] k = refl
lookup_contents (e ∷ es) k =
    ap (λ b. cond b (Some e.1) (lookup (is_at (key_cmp k)) es)) (key_back k e.0)
    ∙ ap (λ o. cond (key_eq e.0 k) (Some e.1) o) (lookup_contents es k)

-- found among the entries
pub found_later : (m : BTreeMap Key ℤ) (rows : List Row) (k : Key) (v : ℤ) → Some v ≡ get key_cmp m k
    → Some v ≡ contents_of (m.entries ++ rows) k
found_later m rows k v is =
    sym (contents-append m.entries rows k ∙ ap (λ o. option_or o (contents_of rows k)) (sym (lookup_contents m.entries k) ∙ sym is))

-- not found there: the value of the rows
pub found_first : (m : BTreeMap Key ℤ) (rows : List Row) (k : Key) → None ≡ get key_cmp m k
    → contents_of rows k ≡ contents_of (m.entries ++ rows) k
found_first m rows k is =
    sym (contents-append m.entries rows k ∙ ap (λ o. option_or o (contents_of rows k)) (sym (lookup_contents m.entries k) ∙ sym is))

-- a value put among the entries is put above all
module _ (m n : BTreeMap Key ℤ) (rows : List Row) (key : Key) (u v : ℤ) (reported : Updates key_cmp m n key (Some u)) (same : u ≡ v) where
  entry_put : (k : Key) → contents_of n.entries k ≡ put_in (contents_of m.entries) key v k
  entry_put k =
      sym (lookup_contents n.entries k) ∙ (reported.0 k ∙ (ap (λ b. cond b (Some u) (get key_cmp m k)) (same_key key k)
      ∙ (ap (λ w. cond (key_eq key k) (Some w) (get key_cmp m k)) same
      ∙ ap (λ o. cond (key_eq key k) (Some v) o) (lookup_contents m.entries k))))

  pub later_put : (k : Key) → contents_of (n.entries ++ rows) k ≡ put_in (contents_of (m.entries ++ rows)) key v k
  later_put k =
      contents-append n.entries rows k ∙ (ap (λ o. option_or o (contents_of rows k)) (entry_put k)
      ∙ (go (key_eq key k) ∙ ap (λ o. cond (key_eq key k) (Some v) o) (sym (contents-append m.entries rows k))))
    where
      go : (b : Bool) → option_or (cond b (Some v) (contents_of m.entries k)) (contents_of rows k)
          ≡ cond b (Some v) (option_or (contents_of m.entries k) (contents_of rows k))
      go true = refl
      go false = refl

  pub values_put : IsValue v → HoldValues (contents_of m.entries) → HoldValues (contents_of n.entries)
  values_put in_range values k = rw (entry_put k) (go (key_eq key k) (values k))
    where
      go : (b : Bool) → IfSome (contents_of m.entries k) IsValue → IfSome (cond b (Some v) (contents_of m.entries k)) IsValue
      go true rest = in_range
      go false rest = rest

-- the entries as a database, merged into the rows
pub merged : {F : Type 0} (r : Result (List Row) F) (entries rows later whole : List Row)
    → ((k : Key) → contents_of later k ≡ contents_of entries k) → entries ++ rows ≡ whole
    → IfOk r (λ d. (k : Key) → contents_of d k ≡ option_or (contents_of later k) (contents_of rows k))
    → IfOk r (λ d. (k : Key) → contents_of d k ≡ contents_of whole k)
merged (Ok d) entries rows later whole same is values = λ k.
    values k ∙ (ap (λ o. option_or o (contents_of rows k)) (same k)
    ∙ (sym (contents-append entries rows k) ∙ ap (λ l. contents_of l k) is))
merged (Err e) entries rows later whole same is values = tt

-- ---- the entries, read one by one

-- the key is that of one of the entries
abbrev pub is_among : Key → List Row → Bool
is_among k entries = list_any (is_at (key_cmp k)) (keys_of entries)

-- one entry more
among_more : (k : Key) (entries : List Row) (e : Row) → is_among k (entries ++ e ∷ []) ≡ (is_among k entries || key_eq e.0 k)
among_more k entries e = ap (list_any (is_at (key_cmp k))) (map-append (λ (x : Row). x.0) entries (e ∷ []))
    ∙ (list_any-append (is_at (key_cmp k)) (keys_of entries) (e.0 ∷ [])
    ∙ ap (λ b. is_among k entries || b) (one (is_at (key_cmp k) e.0) ∙ key_back k e.0))
  where
    one : (b : Bool) → (b || false) ≡ b
    one true = refl
    one false = refl

module _ (m : BTreeMap Key ℤ) where
  -- the value of a key that is among the entries, and none of any other
  abbrev pub read_so_far : List Row → Key → Option ℤ
  read_so_far entries k = cond (is_among k entries) (get key_cmp m k) None

  -- one entry more puts its value
  pub entry_more : (entries : List Row) (e : Row) → get key_cmp m e.0 ≡ Some e.1 → (k : Key)
      → read_so_far (entries ++ e ∷ []) k ≡ put_in (read_so_far entries) e.0 e.1 k
  entry_more entries e found k = ap (λ b. cond b (get key_cmp m k) None) (among_more k entries e)
      ∙ go (is_among k entries) (key_eq e.0 k) (λ same. subst (λ j. get key_cmp m j ≡ Some e.1) (key_eq-true e.0 k same) found)
    where
      go : (a b : Bool) → (b ≡ true → get key_cmp m k ≡ Some e.1)
          → cond (a || b) (get key_cmp m k) None ≡ cond b (Some e.1) (cond a (get key_cmp m k) None)
      go true true is = is refl
      go false true is = is refl
      go true false is = refl
      go false false is = refl

  -- all entries say all values
  pub all_read : (k : Key) → read_so_far m.entries k ≡ contents_of m.entries k
  all_read k = ap (λ b. cond b (get key_cmp m k) None) (sym (is_some-lookup (is_at (key_cmp k)) m.entries))
      ∙ (go (get key_cmp m k) ∙ lookup_contents m.entries k)
    where
      go : (o : Option ℤ) → cond (is_some o) o None ≡ o
      go None = refl
      go (Some value) = refl
