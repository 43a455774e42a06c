-- The database rows of accounts, and the faults that accounts may have.
use Rattle.std.specs.Prelude.{◌≡◌, ◌≢◌, ℕ, ℤ, Bool, ◌&&◌, cond, List, [], ◌∷◌, ◌++◌, Option, Some, None}
use Rattle.std.specs.Option.{is_some, option_or}
use Rattle.std.specs.List.{list_any}
use Rattle.std.specs.Ordering.{int_eq}
use Rattle.sgt_model.specs.Numbers.{IsValue, is_value}
use Rattle.sgt_model.specs.Contents.{Key, Contents, put_in}
use Rattle.sgt_smallbank.specs.Tables.{account, saving, checking}
use Rattle.sgt_smallbank.specs.declared.account.Account.{Account}
use Rattle.sgt_smallbank.specs.declared.errors.BadOpening.{BadOpening}
use Rattle.sgt_smallbank.specs.declared.errors.BadOpening.TheVariants.{Fault, NoMemory}
use Rattle.sgt_smallbank.specs.declared.errors.OpeningFault.{OpeningFault}
use Rattle.sgt_smallbank.specs.declared.errors.OpeningFault.TheVariants.{SameName, SameCustomer, Range}

-- the rows of an account: its customer, by its name
abbrev pub name_key : Account → Key
name_key a = account a.name

-- its saving, by its customer
abbrev pub saving_key : Account → Key
saving_key a = saving a.customer

-- and its checking, by its customer
abbrev pub checking_key : Account → Key
checking_key a = checking a.customer

-- the contents with the rows of an account
abbrev pub with_account : Contents → Account → Contents
with_account m a = put_in (put_in (put_in m (name_key a) a.customer) (saving_key a) a.saving) (checking_key a) a.checking

-- the contents with the rows of these accounts
abbrev pub with_accounts : Contents → List Account → Contents
with_accounts m [] = m
with_accounts m (a ∷ accounts) = with_accounts (with_account m a) accounts

-- the contents of a database that has the rows of these accounts and no others
abbrev pub opened : List Account → Contents
opened = with_accounts (λ key. None)

-- its four numbers are values
pub record IsInRange (a : Account) : Type 0 where
  pub name : IsValue a.name
  pub customer : IsValue a.customer
  pub saving : IsValue a.saving
  pub checking : IsValue a.checking

-- the same, as a test
abbrev pub is_in_range : Account → Bool
is_in_range a = is_value a.name && (is_value a.customer && (is_value a.saving && is_value a.checking))

-- one of the accounts has the name
abbrev pub has_name : List Account → ℤ → Bool
has_name accounts name = list_any (λ a. int_eq a.name name) accounts

-- one of them has the customer
abbrev pub has_customer : List Account → ℤ → Bool
has_customer accounts customer = list_any (λ a. int_eq a.customer customer) accounts

-- the fault of an account that comes after these: a number is out of range, or else one of these has its name, or else
-- one has its customer
abbrev pub fault_after : List Account → Account → Option OpeningFault
fault_after earlier a =
    cond (is_in_range a)
    (cond (has_name earlier a.name) (Some SameName) (cond (has_customer earlier a.customer) (Some SameCustomer) None))
    (Some Range)

-- the same, if the rows of those before it are at hand
abbrev pub fault_among : Contents → Account → Option OpeningFault
fault_among m a =
    cond (is_in_range a)
    (cond (is_some (m (name_key a))) (Some SameName) (cond (is_some (m (saving_key a))) (Some SameCustomer) None))
    (Some Range)

-- the fault of the first account that has one, if these come before
abbrev pub first_fault : List Account → List Account → Option OpeningFault
first_fault earlier [] = None
first_fault earlier (a ∷ accounts) = option_or (fault_after earlier a) (first_fault (earlier ++ a ∷ []) accounts)

-- the first fault of all
abbrev pub fault_of : List Account → Option OpeningFault
fault_of = first_fault []

-- the number of a fault
abbrev pub number_of : OpeningFault → ℕ
number_of SameName = 1
number_of SameCustomer = 2
number_of Range = 3

-- why accounts are refused: the first fault of all; or, if there are accounts and none has a fault, a failed allocation
abbrev pub AreRefused : List Account → BadOpening → Type 0
AreRefused accounts (Fault fault) = fault_of accounts ≡ Some fault
AreRefused accounts NoMemory = (accounts ≢ []) × (fault_of accounts ≡ None)
