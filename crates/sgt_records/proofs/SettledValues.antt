-- What a value written to a key's record, or an empty record, changes.
use Rattle.std.proofs.Common.{◌≡◌, ℤ, Bool, true, false, cond, Option, Some, None, Result, Ok, Err, OnOk, OnErr, IfSome, refl, sym, ap, ◌∙◌, subst}
use Rattle.std.specs.Option.{is_some, option_flatten}
use Rattle.std.specs.Ordering.{is_eq}
use Rattle.std.specs.BTreeMap.{BTreeMap, get, is_at, Updates, IsUnchanged}
use Rattle.std.specs.Map.{lookup}
use Rattle.sgt_model.specs.Numbers.{IsValue}
use Rattle.sgt_model.specs.Contents.{Key, key_eq, set_in}
use Rattle.sgt_model.specs.Databases.{key_cmp}
use Rattle.sgt_model.specs.StoredValues.{HoldValues}
use Rattle.sgt_model.proofs.Stores.{key_eq-true}
pub use Rattle.sgt_model.proofs.FoundKeys.{same_key, key_back}
use Rattle.sgt_records.specs.Settleds.{settled_in, has_record}

module _ (m n : BTreeMap Key (Option ℤ)) (key : Key) (content : Option ℤ) (returned : Updates key_cmp m n key (Some content)) where
  -- what the key's record holds is the key's value, and every other value is as before
  value_returned : (k : Key) → settled_in n k ≡ cond (key_eq key k) content (settled_in m k)
  value_returned k =
      ap option_flatten (returned.0 k) ∙ (ap (λ b. option_flatten (cond b (Some content) (get key_cmp m k))) (same_key key k)
      ∙ go (key_eq key k))
    where
      go : (b : Bool) → option_flatten (cond b (Some content) (get key_cmp m k)) ≡ cond b content (settled_in m k)
      go true = refl
      go false = refl

  -- no record is lost
  pub records_kept : (k : Key) → has_record m k ≡ true → has_record n k ≡ true
  records_kept k h = ap is_some (returned.0 k) ∙ go (is_eq (key_cmp key k))
    where
      go : (b : Bool) → is_some (cond b (Some content) (get key_cmp m k)) ≡ true
      go true = refl
      go false = h

-- a value that is written, or none
pub value_put : (m n : BTreeMap Key (Option ℤ)) (key : Key) (v : Option ℤ) → Updates key_cmp m n key (Some v) → (k : Key)
    → settled_in n k ≡ set_in (settled_in m) key v k
value_put m n key v returned = value_returned m n key v returned

-- of values in range, if it is
pub values_put : (m n : BTreeMap Key (Option ℤ)) (key : Key) (v : Option ℤ) → Updates key_cmp m n key (Some v) → IfSome v IsValue
    → HoldValues (settled_in m) → HoldValues (settled_in n)
values_put m n key v returned in_range values k = rw (value_put m n key v returned k) (go (key_eq key k) (values k))
  where
    go : (b : Bool) → IfSome (settled_in m k) IsValue → IfSome (cond b v (settled_in m k)) IsValue
    go true rest = in_range
    go false rest = rest

-- an empty record for a key that has none
pub value_same : (m n : BTreeMap Key (Option ℤ)) (key : Key) → get key_cmp m key ≡ None → Updates key_cmp m n key (Some None) → (k : Key)
    → settled_in n k ≡ settled_in m k
value_same m n key absent returned k = value_returned m n key None returned k ∙ go (key_eq key k) refl
  where
    go : (b : Bool) → key_eq key k ≡ b → cond b None (settled_in m k) ≡ settled_in m k
    go true e = subst (λ j. None ≡ settled_in m j) (key_eq-true key k e) (sym (ap option_flatten absent))
    go false e = refl

-- whatever came of the empty record, the values are as before
pub values_same : {T F : Type 0} (m n : BTreeMap Key (Option ℤ)) (key : Key) (r : Result T F) → get key_cmp m key ≡ None
    → OnOk r (Updates key_cmp m n key (Some None)) → OnErr r (IsUnchanged m n) → HoldValues (settled_in m) → HoldValues (settled_in n)
values_same m n key (Ok x) absent returned same values k = rw (value_same m n key absent returned k) (values k)
values_same m n key (Err e) absent returned same values k =
    subst (λ (o : Option ℤ). IfSome o IsValue) (sym (ap (λ es. option_flatten (lookup (is_at (key_cmp k)) es)) same)) (values k)

-- the value of a record is in range
pub value_in_range : (m : BTreeMap Key (Option ℤ)) (key : Key) (content : Option ℤ) → Some content ≡ get key_cmp m key
    → HoldValues (settled_in m) → IfSome content IsValue
value_in_range m key content is values = subst (λ (o : Option ℤ). IfSome o IsValue) (sym (ap option_flatten is)) (values key)
