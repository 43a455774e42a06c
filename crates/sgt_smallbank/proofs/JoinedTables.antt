-- The tables of accounts, joined.
use Rattle.std.proofs.Common.{◌≡◌, ℤ, Bool, true, false, cond, Some, None, refl, ap, ◌∙◌, subst}
use Rattle.std.specs.Option.{option_or}
use Rattle.sgt_model.specs.Contents.{Key, key_eq, Contents, put_in}
use Rattle.sgt_model.proofs.Stores.{key_eq-true}
use Rattle.sgt_smallbank.specs.declared.account.Account.{Account}
use Rattle.sgt_smallbank.specs.Accounts.{name_key, saving_key, checking_key, with_account}
use Rattle.sgt_smallbank.specs.Joins.{IsOfTable, joined}

-- a row with the same key and the same value
same_put : (m after : Contents) (i j : Key) (x y : ℤ) → ((k : Key) → after k ≡ put_in m i x k) → i ≡ j → x ≡ y
    → (k : Key) → after k ≡ put_in m j y k
same_put m after i j x y put same_key same_value k =
    put k ∙ ap (λ key. put_in m key x k) same_key ∙ ap (λ value. put_in m j value k) same_value

module _ (c s h : Contents) (customers : IsOfTable 0 c) (savings : IsOfTable 1 s) (checkings : IsOfTable 2 h) where
  -- one row more in each table
  pub account_joined : (c' s' h' : Contents) (a : Account) → ((k : Key) → c' k ≡ put_in c (name_key a) a.customer k)
      → ((k : Key) → s' k ≡ put_in s (saving_key a) a.saving k) → ((k : Key) → h' k ≡ put_in h (checking_key a) a.checking k)
      → (k : Key) → joined c' s' h' k ≡ with_account (joined c s h) a k
  account_joined c' s' h' a first second third k =
      ap (λ o. option_or o (option_or (s' k) (c' k))) (third k)
      ∙ ap (λ o. option_or (put_in h (checking_key a) a.checking k) (option_or o (c' k))) (second k)
      ∙ ap (λ o. option_or (put_in h (checking_key a) a.checking k) (option_or (put_in s (saving_key a) a.saving k) o)) (first k)
      ∙ go (key_eq (checking_key a) k) (key_eq (saving_key a) k) (key_eq (name_key a) k)
      (λ is. subst (λ j. h j ≡ None) (key_eq-true (saving_key a) k is) (checkings (saving_key a) refl))
      (λ is. subst (λ j. h j ≡ None) (key_eq-true (name_key a) k is) (checkings (name_key a) refl))
      (λ is. subst (λ j. s j ≡ None) (key_eq-true (name_key a) k is) (savings (name_key a) refl))
    where
      go : (x y z : Bool) → (y ≡ true → h k ≡ None) → (z ≡ true → h k ≡ None) → (z ≡ true → s k ≡ None)
          → option_or (cond x (Some a.checking) (h k)) (option_or (cond y (Some a.saving) (s k)) (cond z (Some a.customer) (c k)))
          ≡ cond x (Some a.checking) (cond y (Some a.saving) (cond z (Some a.customer) (joined c s h k)))
      go true y z p q r = refl
      go false true z p q r = ap (λ o. option_or o (Some a.saving)) (p refl)
      go false false true p q r =
          ap (λ o. option_or o (option_or (s k) (Some a.customer))) (q refl) ∙ ap (λ o. option_or o (Some a.customer)) (r refl)
      go false false false p q r = refl

  -- the same, as they are written
  pub rows_joined : (c' s' h' : Contents) (a : Account) (name saving checking : Key) (u v w : ℤ)
      → ((k : Key) → c' k ≡ put_in c name u k) → ((k : Key) → s' k ≡ put_in s saving v k)
      → ((k : Key) → h' k ≡ put_in h checking w k) → name ≡ name_key a → u ≡ a.customer → saving ≡ saving_key a → v ≡ a.saving
      → checking ≡ checking_key a → w ≡ a.checking → (k : Key) → joined c' s' h' k ≡ with_account (joined c s h) a k
  rows_joined c' s' h' a name saving checking u v w first second third at_name is_u at_saving is_v at_checking is_w =
      account_joined c' s' h' a (same_put c c' name (name_key a) u a.customer first at_name is_u)
      (same_put s s' saving (saving_key a) v a.saving second at_saving is_v)
      (same_put h h' checking (checking_key a) w a.checking third at_checking is_w)
