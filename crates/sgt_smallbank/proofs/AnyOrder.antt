-- Accounts without a fault write the same rows in any order.
use Rattle.std.proofs.Common.{◌≡◌, ℕ, ℤ, Bool, true, false, cond, List, [], ◌∷◌, ◌++◌, Option, Some, None, refl, ap, sym, subst, ◌∙◌, ◌+◌, ◌≤◌, ◌&&◌, ◌||◌, ◌⊎◌, inl, inr, nat_eq, arith}
use Rattle.std.proofs.lemmas.Bool.{eqb-true, or_cases, or_parts}
use Rattle.std.proofs.lemmas.Bool.Decides.{Decides-int_eq}
use Rattle.std.proofs.lemmas.List.Elements.{All-cons, All-head, All-tail}
use Rattle.std.proofs.lemmas.List.Folds.{list_any-append}
use Rattle.std.proofs.lemmas.List.Sorted.{IsPermutation-sym, All-permutation, sum_by-IsPermutation, list_any-IsPermutation}
use Rattle.std.proofs.lemmas.List.Sums.{sum_by-cons}
use Rattle.std.specs.Prelude.{IsPermutation}
use Rattle.std.specs.List.{All, list_any, sum_by}
use Rattle.std.specs.Option.{option_or}
use Rattle.std.specs.Ordering.{int_eq}
use Rattle.sgt_model.specs.Contents.{Key, key_eq, Contents}
use Rattle.sgt_smallbank.specs.declared.account.Account.{Account}
use Rattle.sgt_smallbank.specs.declared.errors.OpeningFault.{OpeningFault}
use Rattle.sgt_smallbank.specs.declared.errors.OpeningFault.TheVariants.{SameName, SameCustomer, Range}
use Rattle.sgt_smallbank.specs.Accounts.{name_key, saving_key, with_account, with_accounts, opened, fault_after, first_fault, fault_of, has_name, has_customer, is_in_range}

-- ---- accounts by a number: their name or their customer

-- whether the account has the number
abbrev pub has_it : (Account → ℤ) → ℤ → Account → Bool
has_it number n a = int_eq (number a) n

-- how many accounts have the number
abbrev pub count : (Account → ℤ) → ℤ → List Account → ℕ
count number n l = sum_by (λ a. cond (has_it number n a) 1 0) l

-- at most one account has it
abbrev pub AreApart : (Account → ℤ) → List Account → Type 0
AreApart number l = (n : ℤ) → count number n l ≤ 1

module _ (number : Account → ℤ) where
  of_cons : (n : ℤ) (a : Account) (l : List Account) → count number n (a ∷ l) ≡ cond (has_it number n a) 1 0 + count number n l
  of_cons n a l = sum_by-cons (λ a. cond (has_it number n a) 1 0) a l

  of_hit : (n : ℤ) (a : Account) (l : List Account) → has_it number n a ≡ true → count number n (a ∷ l) ≡ 1 + count number n l
  of_hit n a l hit = of_cons n a l ∙ ap (λ b. cond b 1 0 + count number n l) hit

  of_miss : (n : ℤ) (a : Account) (l : List Account) → has_it number n a ≡ false → count number n (a ∷ l) ≡ count number n l
  of_miss n a l miss =
      let same = of_cons n a l ∙ ap (λ b. cond b 1 0 + count number n l) miss in
      omega arith

  -- none has it
  none_if_zero : (n : ℤ) (l : List Account) → count number n l ≡ 0 → list_any (has_it number n) l ≡ false
  none_if_zero n [] is = refl
  none_if_zero n (a ∷ l) is = at (none_if_zero n l) (has_it number n a) refl
    where
      at : (count number n l ≡ 0 → list_any (has_it number n) l ≡ false) → (b : Bool) → has_it number n a ≡ b
          → list_any (has_it number n) (a ∷ l) ≡ false
      at later true hit = absurd (let more = of_hit n a l hit in omega arith)
      at later false miss = ap (λ b. b || list_any (has_it number n) l) miss ∙ later (sym (of_miss n a l miss) ∙ is)

  same_number : (n : ℤ) (a : Account) → has_it number n a ≡ true → number a ≡ n
  same_number n a hit = (Decides-int_eq (number a) n).0 hit

  own_number : (a : Account) → has_it number (number a) a ≡ true
  own_number a = (Decides-int_eq (number a) (number a)).1 refl

  -- no account has a number of those before it, and no two have one
  record AreNew (earlier l : List Account) : Type 0 where
    unlike : (n : ℤ) → list_any (has_it number n) earlier ≡ true → count number n l ≡ 0
    apart : AreApart number l

  new_more : (earlier : List Account) (a : Account) (l : List Account)
      → list_any (has_it number (number a)) earlier ≡ false → AreNew (earlier ++ a ∷ []) l → AreNew earlier (a ∷ l)
  new_more earlier a l new rest = record {
    unlike = λ n seen. one n seen (has_it number n a) refl;
    apart = λ n. at_most n (has_it number n a) refl;
  }
    where
      seen_later : (n : ℤ) (b : Bool) → list_any (has_it number n) earlier ≡ b → has_it number n a ≡ true
          → list_any (has_it number n) (earlier ++ a ∷ []) ≡ true
      seen_later n true is hit = list_any-append (has_it number n) earlier (a ∷ []) ∙ ap (λ b. b || list_any (has_it number n) (a ∷ [])) is
      seen_later n false is hit = list_any-append (has_it number n) earlier (a ∷ []) ∙ ap (λ b. b || list_any (has_it number n) (a ∷ [])) is
          ∙ ap (λ b. b || false) hit

      at_most : (n : ℤ) (b : Bool) → has_it number n a ≡ b → count number n (a ∷ l) ≤ 1
      at_most n true hit =
          let more = of_hit n a l hit in
          let none = rest.unlike n (seen_later n (list_any (has_it number n) earlier) refl hit) in
          omega arith
      at_most n false miss =
          let same = of_miss n a l miss in
          let few = rest.apart n in
          omega arith

      one : (n : ℤ) → list_any (has_it number n) earlier ≡ true → (b : Bool) → has_it number n a ≡ b → count number n (a ∷ l) ≡ 0
      one n seen true hit = absurd (
          let is : list_any (has_it number n) earlier ≡ false = subst (λ m. list_any (has_it number m) earlier ≡ false)
          (same_number n a hit) new in
          cc)
      one n seen false miss =
          of_miss n a l miss ∙ rest.unlike n (list_any-append (has_it number n) earlier (a ∷ [])
          ∙ ap (λ b. b || list_any (has_it number n) (a ∷ [])) seen)

  new_first : (earlier : List Account) (a : Account) (l : List Account) → AreNew earlier (a ∷ l)
      → list_any (has_it number (number a)) earlier ≡ false
  new_first earlier a l are = at (list_any (has_it number (number a)) earlier) refl
    where
      at : (b : Bool) → list_any (has_it number (number a)) earlier ≡ b → list_any (has_it number (number a)) earlier ≡ false
      at true seen = absurd (
          let more = of_hit (number a) a l (own_number a) in
          let none = are.unlike (number a) seen in
          omega arith)
      at false is = is

  new_rest : (earlier : List Account) (a : Account) (l : List Account) → AreNew earlier (a ∷ l) → AreNew (earlier ++ a ∷ []) l
  new_rest earlier a l are = record {
    unlike = λ n seen. at n (or_cases (list_any (has_it number n) earlier) (list_any (has_it number n) (a ∷ []))
        (sym (list_any-append (has_it number n) earlier (a ∷ [])) ∙ seen)) (has_it number n a) refl;
    apart = λ n. few n (has_it number n a) refl;
  }
    where
      few : (n : ℤ) (b : Bool) → has_it number n a ≡ b → count number n l ≤ 1
      few n true hit = let more = of_hit n a l hit in let bound = are.apart n in omega arith
      few n false miss = let same = of_miss n a l miss in let bound = are.apart n in omega arith

      at : (n : ℤ) → (list_any (has_it number n) earlier ≡ true) ⊎ (list_any (has_it number n) (a ∷ []) ≡ true)
          → (b : Bool) → has_it number n a ≡ b → count number n l ≡ 0
      at n seen true hit = let more = of_hit n a l hit in let bound = are.apart n in omega arith
      at n (inl seen) false miss = sym (of_miss n a l miss) ∙ are.unlike n seen
      at n (inr own) false miss = absurd (let no : (has_it number n a || false) ≡ false = ap (λ b. b || false) miss in cc)

-- ---- accounts without a fault

-- each account is in range, and their names and customers are apart
record Flawless (earlier l : List Account) : Type 0 where
  in_range : All (λ a. is_in_range a ≡ true) l
  names : AreNew (λ a. a.name) earlier l
  customers : AreNew (λ a. a.customer) earlier l

none_or : (o p : Option OpeningFault) → option_or o p ≡ None → (o ≡ None) × (p ≡ None)
none_or None p is = (refl, is)
none_or (Some f) p is = absurd cc

of_after : (a b c : Bool) → cond a (cond b (Some SameName) (cond c (Some SameCustomer) None)) (Some Range) ≡ None
    → (a ≡ true) × (b ≡ false) × (c ≡ false)
of_after true false false is = (refl, refl, refl)
of_after true false true is = absurd cc
of_after true true c is = absurd cc
of_after false b c is = absurd cc

flawless_if_none : (earlier l : List Account) → first_fault earlier l ≡ None → Flawless earlier l
flawless_if_none earlier [] is = record {
  in_range = λ k d below. absurd (omega arith);
  names = record { unlike = λ n seen. refl; apart = λ n. omega arith };
  customers = record { unlike = λ n seen. refl; apart = λ n. omega arith };
}
flawless_if_none earlier (a ∷ l) is =
    let both = none_or (fault_after earlier a) (first_fault (earlier ++ a ∷ []) l) is in
    let here = of_after (is_in_range a) (has_name earlier a.name) (has_customer earlier a.customer) both.0 in
    let rest = flawless_if_none (earlier ++ a ∷ []) l both.1 in
    record {
      in_range = All-cons (λ a. is_in_range a ≡ true) a l here.0 rest.in_range;
      names = new_more (λ a. a.name) earlier a l here.1 rest.names;
      customers = new_more (λ a. a.customer) earlier a l here.2 rest.customers;
    }

none_if_flawless : (earlier l : List Account) → Flawless earlier l → first_fault earlier l ≡ None
none_if_flawless earlier [] are = refl
none_if_flawless earlier (a ∷ l) are =
    ap (λ b. option_or (cond b (cond (has_name earlier a.name) (Some SameName)
    (cond (has_customer earlier a.customer) (Some SameCustomer) None)) (Some Range)) (first_fault (earlier ++ a ∷ []) l))
    (All-head (λ a. is_in_range a ≡ true) a l are.in_range)
    ∙ ap (λ b. option_or (cond b (Some SameName) (cond (has_customer earlier a.customer) (Some SameCustomer) None))
    (first_fault (earlier ++ a ∷ []) l))
    (new_first (λ a. a.name) earlier a l are.names)
    ∙ ap (λ b. option_or (cond b (Some SameCustomer) None) (first_fault (earlier ++ a ∷ []) l))
    (new_first (λ a. a.customer) earlier a l are.customers)
    ∙ none_if_flawless (earlier ++ a ∷ []) l (record {
      in_range = All-tail (λ a. is_in_range a ≡ true) a l are.in_range;
      names = new_rest (λ a. a.name) earlier a l are.names;
      customers = new_rest (λ a. a.customer) earlier a l are.customers;
    })

-- ---- the rows of one table

module _ (table : ℕ) (number value : Account → ℤ)
    (put : (m : Contents) (a : Account) (n : ℤ) → with_account m a (table, n)
    ≡ cond (has_it number n a) (Some (value a)) (m (table, n))) where
  untouched : (m : Contents) (l : List Account) (n : ℤ) → list_any (has_it number n) l ≡ false → with_accounts m l (table, n) ≡ m (table, n)
  untouched m [] n none = refl
  untouched m (a ∷ l) n none =
      let parts = or_parts (has_it number n a) (list_any (has_it number n) l) none in
      untouched (with_account m a) l n parts.1 ∙ put m a n ∙ ap (λ b. cond b (Some (value a)) (m (table, n))) parts.0

  -- all accounts with the number have this value
  abbrev HaveValue : ℤ → ℤ → List Account → Type 0
  HaveValue n v l = All (λ a. has_it number n a ≡ true → value a ≡ v) l

  row : (m : Contents) (l : List Account) (n v : ℤ) → HaveValue n v l → list_any (has_it number n) l ≡ true
      → with_accounts m l (table, n) ≡ Some v
  row m [] n v have is = absurd cc
  row m (a ∷ l) n v have is =
      at (row (with_account m a) l n v (All-tail (λ a. has_it number n a ≡ true → value a ≡ v) a l have))
      (list_any (has_it number n) l) refl
      (or_cases (has_it number n a) (list_any (has_it number n) l) is)
    where
      at : (list_any (has_it number n) l ≡ true → with_accounts m (a ∷ l) (table, n) ≡ Some v)
          → (b : Bool) → list_any (has_it number n) l ≡ b → (has_it number n a ≡ true) ⊎ (list_any (has_it number n) l ≡ true)
          → with_accounts m (a ∷ l) (table, n) ≡ Some v
      at deeper true later hit = deeper later
      at deeper false none (inl here) = untouched (with_account m a) l n none ∙ put m a n
          ∙ ap (λ b. cond b (Some (value a)) (m (table, n))) here
          ∙ ap (λ w. Some w) (All-head (λ a. has_it number n a ≡ true → value a ≡ v) a l have here)
      at deeper false none (inr later) = absurd cc

  nowhere : (n v : ℤ) (l : List Account) → list_any (has_it number n) l ≡ false → HaveValue n v l
  nowhere n v [] none = λ k d below. absurd (omega arith)
  nowhere n v (b ∷ l) none =
      let parts = or_parts (has_it number n b) (list_any (has_it number n) l) none in
      All-cons (λ b. has_it number n b ≡ true → value b ≡ v) b l (λ h. absurd cc) (nowhere n v l parts.1)

  values : (m : Contents) (l : List Account) (n : ℤ) → count number n l ≤ 1 → list_any (has_it number n) l ≡ true
      → (v : ℤ) × HaveValue n v l
  values m [] n few is = absurd cc
  values m (a ∷ l) n few is = at (values m l n) (has_it number n a) refl
    where
      at : (count number n l ≤ 1 → list_any (has_it number n) l ≡ true → (v : ℤ) × HaveValue n v l)
          → (b : Bool) → has_it number n a ≡ b → (v : ℤ) × HaveValue n v (a ∷ l)
      at deeper true hit =
          let more = of_hit number n a l hit in
          let none = none_if_zero number n l (omega arith) in
          (value a, All-cons (λ b. has_it number n b ≡ true → value b ≡ value a) a l (λ h. refl) (nowhere n (value a) l none))
      at deeper false miss =
          let same = of_miss number n a l miss in
          let later = deeper (omega arith) (sym (ap (λ b. b || list_any (has_it number n) l) miss) ∙ is) in
          (later.0, All-cons (λ b. has_it number n b ≡ true → value b ≡ later.0) a l (λ h. absurd cc) later.1)

  -- the same accounts in another order write the same row
  same_row : (xs ys : List Account) → IsPermutation xs ys → AreApart number xs → (n : ℤ)
      → opened xs (table, n) ≡ opened ys (table, n)
  same_row xs ys moved apart n = at (list_any (has_it number n) xs) refl
    where
      at : (b : Bool) → list_any (has_it number n) xs ≡ b → opened xs (table, n) ≡ opened ys (table, n)
      at true is =
          let found = values (λ key. None) xs n (apart n) is in
          row (λ key. None) xs n found.0 found.1 is
          ∙ sym (row (λ key. None) ys n found.0 (All-permutation (λ a. has_it number n a ≡ true → value a ≡ found.0) xs ys moved
          found.1) (sym (list_any-IsPermutation (has_it number n) xs ys moved) ∙ is))
      at false none =
          untouched (λ key. None) xs n none
          ∙ sym (untouched (λ key. None) ys n (sym (list_any-IsPermutation (has_it number n) xs ys moved) ∙ none))

-- ---- all tables

-- a key of none of the three tables
abbrev IsOther : Key → Type 0
IsOther k = (nat_eq 0 k.0 ≡ false) × (nat_eq 1 k.0 ≡ false) × (nat_eq 2 k.0 ≡ false)

other_put : (m : Contents) (a : Account) (k : Key) → IsOther k → with_account m a k ≡ m k
other_put m a k other =
    ap (λ b. cond (b && int_eq a.customer k.1) (Some a.checking) (cond (key_eq (saving_key a) k) (Some a.saving)
    (cond (key_eq (name_key a) k) (Some a.customer) (m k)))) other.2
    ∙ ap (λ b. cond (b && int_eq a.customer k.1) (Some a.saving) (cond (key_eq (name_key a) k) (Some a.customer) (m k))) other.1
    ∙ ap (λ b. cond (b && int_eq a.name k.1) (Some a.customer) (m k)) other.0

other_rows : (m : Contents) (l : List Account) (k : Key) → IsOther k → with_accounts m l k ≡ m k
other_rows m [] k other = refl
other_rows m (a ∷ l) k other = other_rows (with_account m a) l k other ∙ other_put m a k other

same_rows : (xs ys : List Account) → IsPermutation xs ys → Flawless [] xs → (k : Key) → opened xs k ≡ opened ys k
same_rows xs ys moved are k = at (nat_eq 0 k.0) (nat_eq 1 k.0) (nat_eq 2 k.0) refl refl refl
  where
    at : (x y z : Bool) → nat_eq 0 k.0 ≡ x → nat_eq 1 k.0 ≡ y → nat_eq 2 k.0 ≡ z → opened xs k ≡ opened ys k
    at true y z is _ _ = subst (λ t. opened xs (t, k.1) ≡ opened ys (t, k.1)) (eqb-true 0 k.0 is)
        (same_row 0 (λ a. a.name) (λ a. a.customer) (λ m a n. refl) xs ys moved are.names.apart k.1)
    at false true z _ is _ = subst (λ t. opened xs (t, k.1) ≡ opened ys (t, k.1)) (eqb-true 1 k.0 is)
        (same_row 1 (λ a. a.customer) (λ a. a.saving) (λ m a n. refl) xs ys moved are.customers.apart k.1)
    at false false true _ _ is = subst (λ t. opened xs (t, k.1) ≡ opened ys (t, k.1)) (eqb-true 2 k.0 is)
        (same_row 2 (λ a. a.customer) (λ a. a.checking) (λ m a n. refl) xs ys moved are.customers.apart k.1)
    at false false false zeroth first second =
        other_rows (λ key. None) xs k (zeroth, first, second) ∙ sym (other_rows (λ key. None) ys k (zeroth, first, second))

-- Accounts of which none has a fault, in another order: none has a fault, and they write the same rows.
pub any_order : (xs ys : List Account) → IsPermutation xs ys → fault_of ys ≡ None
    → (fault_of xs ≡ None) × ((k : Key) → opened ys k ≡ opened xs k)
any_order xs ys moved none =
    let back = IsPermutation-sym xs ys moved in
    let are = flawless_if_none [] ys none in (
      none_if_flawless [] xs (record {
        in_range = All-permutation (λ a. is_in_range a ≡ true) ys xs back are.in_range;
        names = apart_in (λ a. a.name) are.names.apart;
        customers = apart_in (λ a. a.customer) are.customers.apart;
      }),
      same_rows ys xs back are,
    )
  where
    apart_in : (number : Account → ℤ) → AreApart number ys → AreNew number [] xs
    apart_in number apart = record {
      unlike = λ n seen. absurd cc;
      apart = λ n. subst (λ c. c ≤ 1) (sum_by-IsPermutation (λ a. cond (has_it number n a) 1 0) xs ys moved) (apart n);
    }
