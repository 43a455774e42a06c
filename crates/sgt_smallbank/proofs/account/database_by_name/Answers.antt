use Rattle.std.proofs.Common.{◌≡◌, List, None, Some, sym, ap, subst, ◌∙◌}
use Rattle.std.specs.Prelude.{Result, Ok, Err, IfOk, OnOk, IfSome, OnSome, IsPermutation}
use Rattle.std.specs.Result.{result_ok}
use Rattle.sgt_model.specs.Contents.{Key}
use Rattle.sgt_model.specs.Databases.{contents_of}
use Rattle.sgt_smallbank.specs.declared.account.Account.{Account}
use Rattle.sgt_smallbank.specs.Accounts.{opened, fault_of}
use Rattle.sgt_smallbank.proofs.AnyOrder.{any_order}
use Rattle.sgt_smallbank.proofs.account.database_by_name.Goals as goal

-- the items of a copy that could be made
items_of : {X E : Type 0} (xs : List Account) (items : X → List Account) (r : Result X E) (v : X) → result_ok r ≡ Some v
    → IfOk r (λ v. items v ≡ xs) → items v ≡ xs
items_of xs items (Ok w) v is same = ap items (sym (cc)) ∙ same
items_of xs items (Err e) v is same = absurd cc

-- the sorted copy has the accounts in another order
moved : (c : goal.After-drop-sorted) → IsPermutation c.args.accounts.now c.as_slice.result.now
moved c =
    subst (λ ys. IsPermutation c.args.accounts.now ys) (sym c.as_slice.ensures.value)
    (subst (λ xs. IsPermutation xs c.sort_unstable_by_key.new.self.items)
    (items_of c.args.accounts.now (λ v. v.items) c.from_slice.result c.in_ok-sorted.sorted
    (sym c.ok.ensures.value ∙ c.in_ok-sorted.was) c.from_slice.ensures.items)
    c.sort_unstable_by_key.ensures.permutation)

-- what holds of the accounts in another order holds of these
module _ (xs ys : List Account) (moved : IsPermutation xs ys) where
  contents_kept : {E : Type 0} (r : Result _ E) → IfOk r (λ d. (k : Key) → contents_of d k ≡ opened ys k) → OnOk r (fault_of ys ≡ None)
      → IfSome (result_ok r) (λ d. (k : Key) → contents_of d k ≡ opened xs k)
  contents_kept (Ok d) contents none = λ k. contents k ∙ (any_order xs ys moved none).1 k
  contents_kept (Err e) contents none = tt

  none_kept : {X E : Type 0} (r : Result X E) → OnOk r (fault_of ys ≡ None) → OnSome (result_ok r) (fault_of xs ≡ None)
  none_kept (Ok d) none = (any_order xs ys moved none).0
  none_kept (Err e) none = tt

pub returns-clause-contents : goal.returns-clause-contents
returns-clause-contents c =
    let xs = c.args.accounts.now in
    subst (λ o. IfSome o (λ d. (k : Key) → contents_of d k ≡ opened xs k)) (sym c.ok-2.ensures.value)
    (contents_kept xs c.as_slice.result.now (moved c) c.database_in_turn.result c.database_in_turn.ensures.contents
    c.database_in_turn.ensures.no_fault)

pub returns-clause-no_fault : goal.returns-clause-no_fault
returns-clause-no_fault c =
    let xs = c.args.accounts.now in
    subst (λ o. OnSome o (fault_of xs ≡ None)) (sym c.ok-2.ensures.value)
    (none_kept xs c.as_slice.result.now (moved c) c.database_in_turn.result c.database_in_turn.ensures.no_fault)
