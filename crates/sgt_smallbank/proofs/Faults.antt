-- The rows that accounts write, one after another, and their faults.
use Rattle.std.proofs.Common.{◌≡◌, ℕ, ℤ, Bool, true, false, cond, List, [], ◌∷◌, ◌++◌, Option, Some, None, refl, ap, sym, ◌∙◌, ◌+◌, ◌<◌, ◌||◌, length, take, drop, get_or}
use Rattle.std.proofs.lemmas.List.{take_more, at_drop_more}
use Rattle.std.specs.Option.{is_some, option_or}
use Rattle.std.specs.Ordering.{int_eq}
use Rattle.sgt_model.specs.Contents.{Key, key_eq, Contents}
use Rattle.sgt_smallbank.specs.declared.account.Account.{Account}
use Rattle.sgt_smallbank.specs.declared.errors.OpeningFault.{OpeningFault}
use Rattle.sgt_smallbank.specs.declared.errors.OpeningFault.TheVariants.{SameName, SameCustomer, Range}
use Rattle.sgt_smallbank.specs.Accounts.{name_key, saving_key, checking_key, with_account, with_accounts, opened, fault_among, fault_after, first_fault, fault_of, has_name, has_customer, is_in_range}
use Rattle.sgt_smallbank.specs.Tables.{account, saving}

-- ---- one account

-- contents that agree at a key agree there with the account's rows
with_account_same : (m n : Contents) (a : Account) (k : Key) → m k ≡ n k → with_account m a k ≡ with_account n a k
with_account_same m n a k same =
    ap (λ o. cond (key_eq (checking_key a) k) (Some a.checking) (cond (key_eq (saving_key a) k) (Some a.saving)
    (cond (key_eq (name_key a) k) (Some a.customer) o))) same

-- ---- all accounts

-- one more account
pub with_accounts-append : (m : Contents) (accounts : List Account) (a : Account)
    → with_accounts m (accounts ++ a ∷ []) ≡ with_account (with_accounts m accounts) a
with_accounts-append m [] a = refl
with_accounts-append m (b ∷ accounts) a = with_accounts-append (with_account m b) accounts a

-- the contents after the account at i
pub rows_next : (before after : Contents) (accounts : List Account) (i : ℕ) (d : Account) → i < length accounts
    → ((k : Key) → before k ≡ opened (take i accounts) k) → ((k : Key) → after k ≡ with_account before (get_or accounts i d) k)
    → (k : Key) → after k ≡ opened (take (i + 1) accounts) k
rows_next before after accounts i d within same put k =
    put k
    ∙ with_account_same before (opened (take i accounts)) (get_or accounts i d) k (same k)
    ∙ ap (λ m. m k) (sym (with_accounts-append (λ key. None) (take i accounts) (get_or accounts i d)))
    ∙ ap (λ accounts. opened accounts k) (sym (take_more accounts i d within))

or_none : (b : Bool) → b ≡ (b || false)
or_none true = refl
or_none false = refl

-- ---- names and customers among the rows

-- a value that is put, or was there
there : (b : Bool) (v : ℤ) (o : Option ℤ) (more : Bool) → (is_some (cond b (Some v) o) || more) ≡ (is_some o || (b || more))
there true v None more = refl
there true v (Some w) more = refl
there false v o more = refl

names_among : (m : Contents) (accounts : List Account) (name : ℤ)
    → is_some (with_accounts m accounts (account name)) ≡ (is_some (m (account name)) || has_name accounts name)
names_among m [] name = or_none (is_some (m (account name)))
names_among m (a ∷ accounts) name = names_among (with_account m a) accounts name
    ∙ there (int_eq a.name name) a.customer (m (account name)) (has_name accounts name)

customers_among : (m : Contents) (accounts : List Account) (customer : ℤ)
    → is_some (with_accounts m accounts (saving customer)) ≡ (is_some (m (saving customer)) || has_customer accounts customer)
customers_among m [] customer = or_none (is_some (m (saving customer)))
customers_among m (a ∷ accounts) customer = customers_among (with_account m a) accounts customer
    ∙ there (int_eq a.customer customer) a.saving (m (saving customer)) (has_customer accounts customer)

-- ---- the account at an index

module _ (accounts : List Account) (i : ℕ) (d : Account) (rows : Contents) (within : i < length accounts)
    (same : (k : Key) → rows k ≡ opened (take i accounts) k)
    (so_far : first_fault (take i accounts) (drop i accounts) ≡ fault_of accounts) where
  -- its fault among the rows of those before it is its fault among those before it
  same_fault : (a : Account) → fault_among rows a ≡ fault_after (take i accounts) a
  same_fault a =
      ap (λ b. cond (is_in_range a) (cond b (Some SameName) (cond (is_some (rows (saving_key a))) (Some SameCustomer) None)) (Some Range))
      (ap is_some (same (name_key a)) ∙ names_among (λ key. None) (take i accounts) a.name)
      ∙ ap (λ b. cond (is_in_range a) (cond (has_name (take i accounts) a.name) (Some SameName) (cond b (Some SameCustomer) None))
      (Some Range))
      (ap is_some (same (saving_key a)) ∙ customers_among (λ key. None) (take i accounts) a.customer)

  here : (a : Account) → a ≡ get_or accounts i d
      → option_or (fault_among rows a) (first_fault (take (i + 1) accounts) (drop (i + 1) accounts)) ≡ fault_of accounts
  here a is =
      ap (λ o. option_or o (first_fault (take (i + 1) accounts) (drop (i + 1) accounts))) (same_fault a)
      ∙ ap (λ x. option_or (fault_after (take i accounts) x) (first_fault (take (i + 1) accounts) (drop (i + 1) accounts))) is
      ∙ ap (λ l. option_or (fault_after (take i accounts) (get_or accounts i d)) (first_fault l (drop (i + 1) accounts)))
      (take_more accounts i d within)
      ∙ sym (at_drop_more (first_fault (take i accounts)) accounts i d within)
      ∙ so_far

  -- if it has one, that is the first of all
  pub fault_here : (a : Account) (f : OpeningFault) → a ≡ get_or accounts i d → fault_among rows a ≡ Some f → fault_of accounts ≡ Some f
  fault_here a f is fault = sym (here a is) ∙ ap (λ o. option_or o (first_fault (take (i + 1) accounts) (drop (i + 1) accounts))) fault

  -- else the first is among those after it
  pub fault_later : (a : Account) → a ≡ get_or accounts i d → fault_among rows a ≡ None
      → first_fault (take (i + 1) accounts) (drop (i + 1) accounts) ≡ fault_of accounts
  fault_later a is none = sym (ap (λ o. option_or o (first_fault (take (i + 1) accounts) (drop (i + 1) accounts))) none) ∙ here a is
