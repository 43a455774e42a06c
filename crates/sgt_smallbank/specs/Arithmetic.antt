-- The bank's arithmetic: what each procedure must do, over a plain map of the records. The first refusal that applies
-- decides, and a refused procedure changes nothing. Amounts are whole cents.
use Rattle.std.specs.Prelude.{◌≡◌, ℕ, zero, suc, ℤ, pos, ◌+ℤ◌, ◌-ℤ◌, int_lt, Bool, cond, List, [], ◌∷◌, length, All, Option, Some, None, slice_get}
use Rattle.std.specs.Ordering.{int_eq}
use Rattle.sgt_model.specs.Numbers.{IsValue, is_value}
use Rattle.sgt_model.specs.Contents.{Key, Contents, put_in}
use Rattle.sgt_model.specs.Syntax.{ProcedureText}
use Rattle.sgt_model.specs.Runs.{Outcome, Done, Asked, serial}
use Rattle.sgt_model.specs.Meaning.{run_with}
use Rattle.sgt_model.specs.StoredValues.{HoldValues}
use Rattle.sgt_smallbank.specs.Tables.{account, saving, checking}
use Rattle.sgt_smallbank.specs.Texts.{procedures}

-- refused with the code if the test holds
abbrev pub refused_if : Bool → ℕ → Outcome → Outcome
refused_if test code go = cond test (Asked code) go

-- continues with the record's value, or is refused with the code if there is none
abbrev pub if_present : ℕ → Option ℤ → (ℤ → Outcome) → Outcome
if_present code None go = Asked code
if_present code (Some v) go = go v

-- continues with the number, or is refused with 1000 if it is not a value
abbrev pub in_range : ℤ → (ℤ → Outcome) → Outcome
in_range z go = cond (is_value z) (go z) (Asked 1000)

-- the new balance is written and answered
abbrev pub now_has : Contents → Key → ℤ → Outcome
now_has m balance new = Done (new ∷ []) (put_in m balance new)

-- Balance answers the sum of saving and checking
abbrev pub balance_outcome : ℤ → Contents → Outcome
balance_outcome name m =
    if_present 1 (m (account name)) (λ customer.
    if_present 5 (m (saving customer)) (λ s.
    if_present 5 (m (checking customer)) (λ c.
    in_range (s +ℤ c) (λ sum.
    Done (sum ∷ []) m))))

-- DepositChecking adds an amount, which may not be negative, to the checking
abbrev pub deposit_checking_outcome : ℤ → ℤ → Contents → Outcome
deposit_checking_outcome name amount m =
    refused_if (int_lt amount (pos 0)) 2 (
    if_present 1 (m (account name)) (λ customer.
    if_present 5 (m (checking customer)) (λ c.
    in_range (c +ℤ amount) (λ new.
    now_has m (checking customer) new))))

-- TransactSaving adds an amount to the saving, which may not become negative
abbrev pub transact_saving_outcome : ℤ → ℤ → Contents → Outcome
transact_saving_outcome name amount m =
    if_present 1 (m (account name)) (λ customer.
    if_present 5 (m (saving customer)) (λ s.
    in_range (s +ℤ amount) (λ new.
    refused_if (int_lt new (pos 0)) 3 (
    now_has m (saving customer) new))))

-- no money is left
abbrev pub emptied : Contents → ℤ → Contents
emptied m customer = put_in (put_in m (saving customer) (pos 0)) (checking customer) (pos 0)

-- Amalgamate takes all that the first customer has, and adds it to the checking that the second then has. It answers
-- the amount taken. Two names may have one customer
abbrev pub amalgamate_outcome : ℤ → ℤ → Contents → Outcome
amalgamate_outcome from to m =
    refused_if (int_eq from to) 4 (
    if_present 1 (m (account from)) (λ giver.
    if_present 1 (m (account to)) (λ taker.
    if_present 5 (m (saving giver)) (λ s.
    if_present 5 (m (checking giver)) (λ c.
    in_range (s +ℤ c) (λ sum.
    if_present 5 (emptied m giver (checking taker)) (λ had.
    in_range (had +ℤ sum) (λ new.
    Done (sum ∷ []) (put_in (emptied m giver) (checking taker) new)))))))))

-- WriteCheck takes an amount, which may not be negative, from the checking, and 100 more if saving and checking
-- together are less than the amount
abbrev pub write_check_outcome : ℤ → ℤ → Contents → Outcome
write_check_outcome name amount m =
    refused_if (int_lt amount (pos 0)) 2 (
    if_present 1 (m (account name)) (λ customer.
    if_present 5 (m (saving customer)) (λ s.
    if_present 5 (m (checking customer)) (λ c.
    in_range (s +ℤ c) (λ sum.
    in_range (c -ℤ amount) (λ left.
    cond (int_lt sum amount)
    (in_range (left -ℤ pos 100) (λ less. now_has m (checking customer) less))
    (now_has m (checking customer) left)))))))

-- what the procedure of this number must do with these arguments. Other numbers, and other counts of arguments, belong
-- to no procedure: code 0, which no procedure raises, stands for that
abbrev pub bank : ℕ → List ℤ → Contents → Outcome
bank zero (name ∷ []) m = balance_outcome name m
bank (suc zero) (name ∷ amount ∷ []) m = deposit_checking_outcome name amount m
bank (suc (suc zero)) (name ∷ amount ∷ []) m = transact_saving_outcome name amount m
bank (suc (suc (suc zero))) (from ∷ to ∷ []) m = amalgamate_outcome from to m
bank (suc (suc (suc (suc zero)))) (name ∷ amount ∷ []) m = write_check_outcome name amount m
bank n args m = Asked 0

-- each of the five procedures does what the bank's arithmetic says of its number. It runs at once over contents that
-- hold values, with as many values as it takes
abbrev pub SerialIsBank : Type 0
SerialIsBank = (n : ℕ) (p : ProcedureText) (args : List ℤ) (m : Contents) → slice_get procedures n ≡ Some p → length args ≡ p.args → All IsValue args → HoldValues m → serial (run_with p args) m ≡ bank n args m
