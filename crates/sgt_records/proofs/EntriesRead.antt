-- The entries of a map, read one by one: each gives its key a value, or none.
use Rattle.std.proofs.Common.{◌≡◌, ℤ, Bool, true, false, cond, ◌||◌, List, [], ◌∷◌, ◌++◌, Option, Some, None, refl, sym, ap, ◌∙◌, subst}
use Rattle.std.proofs.lemmas.List.{map-append}
use Rattle.std.proofs.lemmas.List.Folds.{list_any-append}
use Rattle.std.proofs.lemmas.Map.Made.{is_some-lookup}
use Rattle.std.specs.BTreeMap.{BTreeMap, get, is_at}
use Rattle.std.specs.List.{list_any}
use Rattle.std.specs.Map.{keys_of}
use Rattle.std.specs.Option.{is_some, option_and_then}
use Rattle.sgt_model.specs.Contents.{Key, key_eq, put_in}
use Rattle.sgt_model.specs.Databases.{key_cmp}
use Rattle.sgt_model.proofs.Stores.{key_eq-true}
use Rattle.sgt_records.proofs.SettledValues.{key_back}

module _ {R : Type 0} (value : R → Option ℤ) where
  -- the key is that of one of the entries
  abbrev is_among : Key → List (Key × R) → Bool
  is_among k entries = list_any (is_at (key_cmp k)) (keys_of entries)

  -- one entry more
  among_more : (k : Key) (entries : List (Key × R)) (e : Key × R) → is_among k (entries ++ e ∷ []) ≡ (is_among k entries || key_eq e.0 k)
  among_more k entries e = ap (list_any (is_at (key_cmp k))) (map-append (λ (x : Key × R). x.0) entries (e ∷ []))
      ∙ (list_any-append (is_at (key_cmp k)) (keys_of entries) (e.0 ∷ [])
      ∙ ap (λ b. is_among k entries || b) (one (is_at (key_cmp k) e.0) ∙ key_back k e.0))
    where
      one : (b : Bool) → (b || false) ≡ b
      one true = refl
      one false = refl

  module _ (m : BTreeMap Key R) where
    -- the value that the map gives a key
    abbrev pub given : Key → Option ℤ
    given k = option_and_then value (get key_cmp m k)

    -- the value of a key that is among the entries, and none of any other
    abbrev pub given_so_far : List (Key × R) → Key → Option ℤ
    given_so_far entries k = cond (is_among k entries) (given k) None

    -- one entry more gives its key's value
    entry_more : (entries : List (Key × R)) (e : Key × R) → get key_cmp m e.0 ≡ Some e.1 → (k : Key)
        → given_so_far (entries ++ e ∷ []) k ≡ cond (key_eq e.0 k) (value e.1) (given_so_far entries k)
    entry_more entries e found k = ap (λ b. cond b (given k) None) (among_more k entries e)
        ∙ go (is_among k entries) (key_eq e.0 k) (λ same. ap (option_and_then value)
        (subst (λ j. get key_cmp m j ≡ Some e.1) (key_eq-true e.0 k same) found))
      where
        go : (a b : Bool) → (b ≡ true → given k ≡ value e.1) → cond (a || b) (given k) None ≡ cond b (value e.1) (cond a (given k) None)
        go true true is = is refl
        go false true is = is refl
        go true false is = refl
        go false false is = refl

    -- an entry with a value writes it
    pub value_more : (entries : List (Key × R)) (key : Key) (r : R) (v : ℤ) → get key_cmp m key ≡ Some r → value r ≡ Some v → (k : Key)
        → given_so_far (entries ++ (key, r) ∷ []) k ≡ put_in (given_so_far entries) key v k
    value_more entries key r v found is k = entry_more entries (key, r) found k
        ∙ ap (λ o. cond (key_eq key k) o (given_so_far entries k)) is

    -- one with none writes none
    pub empty_more : (entries : List (Key × R)) (key : Key) (r : R) → get key_cmp m key ≡ Some r → value r ≡ None → (k : Key)
        → given_so_far (entries ++ (key, r) ∷ []) k ≡ given_so_far entries k
    empty_more entries key r found none k = entry_more entries (key, r) found k
        ∙ (ap (λ o. cond (key_eq key k) o (given_so_far entries k)) none
        ∙ go (key_eq key k) (is_among k entries) (λ same. ap (option_and_then value)
        (subst (λ j. get key_cmp m j ≡ Some r) (key_eq-true key k same) found) ∙ none))
      where
        go : (b a : Bool) → (b ≡ true → given k ≡ None) → cond b None (cond a (given k) None) ≡ cond a (given k) None
        go true true is = sym (is refl)
        go true false is = refl
        go false a is = refl

    -- all entries give all values
    pub all_given : (k : Key) → given_so_far m.entries k ≡ given k
    all_given k = ap (λ b. cond b (given k) None) (sym (is_some-lookup (is_at (key_cmp k)) m.entries)) ∙ go (get key_cmp m k)
      where
        go : (o : Option R) → cond (is_some o) (option_and_then value o) None ≡ option_and_then value o
        go None = refl
        go (Some r) = refl
