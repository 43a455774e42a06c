-- The records, read one by one.
use Rattle.std.proofs.Common.{◌≡◌, ℤ, Bool, true, false, cond, ◌||◌, List, [], ◌∷◌, ◌++◌, Option, Some, None, refl, sym, ap, ◌∙◌, subst}
use Rattle.std.proofs.lemmas.List.{map-append}
use Rattle.std.proofs.lemmas.List.Folds.{list_any-append}
use Rattle.std.proofs.lemmas.Map.Made.{is_some-lookup}
use Rattle.std.specs.BTreeMap.{BTreeMap, get, is_at}
use Rattle.std.specs.List.{list_any}
use Rattle.std.specs.Map.{keys_of}
use Rattle.std.specs.Option.{is_some, option_flatten}
use Rattle.sgt_model.specs.Contents.{Key, key_eq, put_in}
use Rattle.sgt_model.specs.Databases.{key_cmp}
use Rattle.sgt_model.proofs.Stores.{key_eq-true}
use Rattle.sgt_records.specs.Settleds.{settled_in}
use Rattle.sgt_records.proofs.SettledValues.{key_back}

-- the key is that of one of the entries
abbrev pub is_among : Key → List (Key × Option ℤ) → Bool
is_among k entries = list_any (is_at (key_cmp k)) (keys_of entries)

-- one entry more
pub among_more : (k : Key) (entries : List (Key × Option ℤ)) (e : Key × Option ℤ)
    → is_among k (entries ++ e ∷ []) ≡ (is_among k entries || key_eq e.0 k)
among_more k entries e = ap (list_any (is_at (key_cmp k))) (map-append (λ (x : Key × Option ℤ). x.0) entries (e ∷ []))
    ∙ (list_any-append (is_at (key_cmp k)) (keys_of entries) (e.0 ∷ [])
    ∙ ap (λ b. is_among k entries || b) (one (is_at (key_cmp k) e.0) ∙ key_back k e.0))
  where
    one : (b : Bool) → (b || false) ≡ b
    one true = refl
    one false = refl

module _ (m : BTreeMap Key (Option ℤ)) where
  -- the value of a key that is among the entries, and none of any other
  abbrev pub read_so_far : List (Key × Option ℤ) → Key → Option ℤ
  read_so_far entries k = cond (is_among k entries) (settled_in m k) None

  -- one entry more says its key's value
  entry_more : (entries : List (Key × Option ℤ)) (e : Key × Option ℤ) → get key_cmp m e.0 ≡ Some e.1 → (k : Key)
      → read_so_far (entries ++ e ∷ []) k ≡ cond (key_eq e.0 k) e.1 (read_so_far entries k)
  entry_more entries e found k = ap (λ b. cond b (settled_in m k) None) (among_more k entries e)
      ∙ go (is_among k entries) (key_eq e.0 k) (λ same. ap option_flatten
      (subst (λ j. get key_cmp m j ≡ Some e.1) (key_eq-true e.0 k same) found))
    where
      go : (a b : Bool) → (b ≡ true → settled_in m k ≡ e.1)
          → cond (a || b) (settled_in m k) None ≡ cond b e.1 (cond a (settled_in m k) None)
      go true true is = is refl
      go false true is = is refl
      go true false is = refl
      go false false is = refl

  -- a record with a value writes it
  pub value_more : (entries : List (Key × Option ℤ)) (key : Key) (v : ℤ) → get key_cmp m key ≡ Some (Some v) → (k : Key)
      → read_so_far (entries ++ (key, Some v) ∷ []) k ≡ put_in (read_so_far entries) key v k
  value_more entries key v found k = entry_more entries (key, Some v) found k

  -- an empty one writes none
  pub empty_more : (entries : List (Key × Option ℤ)) (key : Key) → get key_cmp m key ≡ Some None → (k : Key)
      → read_so_far (entries ++ (key, None) ∷ []) k ≡ read_so_far entries k
  empty_more entries key found k = entry_more entries (key, None) found k
      ∙ go (key_eq key k) (is_among k entries) (λ same. ap option_flatten
      (subst (λ j. get key_cmp m j ≡ Some None) (key_eq-true key k same) found))
    where
      go : (b a : Bool) → (b ≡ true → settled_in m k ≡ None) → cond b None (cond a (settled_in m k) None) ≡ cond a (settled_in m k) None
      go true true is = sym (is refl)
      go true false is = refl
      go false a is = refl

  -- all entries say all values
  pub all_read : (k : Key) → read_so_far m.entries k ≡ settled_in m k
  all_read k = ap (λ b. cond b (settled_in m k) None) (sym (is_some-lookup (is_at (key_cmp k)) m.entries)) ∙ go (get key_cmp m k)
    where
      go : (o : Option (Option ℤ)) → cond (is_some o) (option_flatten o) None ≡ option_flatten o
      go None = refl
      go (Some content) = refl
