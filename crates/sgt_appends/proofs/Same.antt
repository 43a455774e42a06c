-- Contents that agree at each key, and operations one by one.
use Rattle.std.proofs.Common.{◌≡◌, ◌<◌, ◌+◌, ◌==◌, ℕ, suc, cond, List, [], ◌∷◌, ◌++◌, length, drop, get_or, Some, sym, ap, ◌∙◌, subst, add-one, drop-cons}
use Rattle.std.specs.Prelude.{slice_get}
use Rattle.sgt_appends.specs.declared.transaction.Operation.{Operation}
use Rattle.sgt_appends.specs.declared.transaction.Operation.TheVariants.{Append, Read}
use Rattle.sgt_appends.specs.declared.transaction.Transaction.{Transaction}
use Rattle.sgt_appends.specs.Runs.{Contents, after, Sees, after_all, SeesAll, operations_or_none, operations_of, IsRun}

pub after_same : (o : Operation) (c c' : Contents) → ((k : ℕ) → c k ≡ c' k) → (k : ℕ) → after o c k ≡ after o c' k
after_same (Append key value) c c' same k = ap (λ xs. cond (k == key) (xs ++ value ∷ []) xs) (same k)
after_same (Read key values) c c' same k = same k

pub sees_same : (o : Operation) (c c' : Contents) → ((k : ℕ) → c k ≡ c' k) → Sees o c → Sees o c'
sees_same (Append key value) c c' same sees = tt
sees_same (Read key values) c c' same sees = sees ∙ same key

pub after_all_same : (os : List Operation) (c c' : Contents) → ((k : ℕ) → c k ≡ c' k) → (k : ℕ) → after_all os c k ≡ after_all os c' k
after_all_same [] c c' same k = same k
after_all_same (o ∷ os) c c' same k = after_all_same os (after o c) (after o c') (after_same o c c' same) k

pub sees_all_same : (os : List Operation) (c c' : Contents) → ((k : ℕ) → c k ≡ c' k) → SeesAll os c → SeesAll os c'
sees_all_same [] c c' same sees = tt
sees_all_same (o ∷ os) c c' same sees =
    (sees_same o c c' same sees.0, sees_all_same os (after o c) (after o c') (after_same o c c' same) sees.1)

pub is_run_same : (h : List Transaction) (c c' : Contents) (ts : List ℕ) → ((k : ℕ) → c k ≡ c' k) → IsRun h c ts → IsRun h c' ts
is_run_same h c c' [] same run = tt
is_run_same h c c' (t ∷ ts) same run = (
  sees_all_same (operations_of h t) c c' same run.0,
  is_run_same h (after_all (operations_of h t) c) (after_all (operations_of h t) c') ts
      (after_all_same (operations_of h t) c c' same) run.1,
)

pub drop_one : {A : Type 0} (xs : List A) (i : ℕ) (x : A) → i < length xs → x ≡ get_or xs i x → drop i xs ≡ x ∷ drop (i + 1) xs
drop_one xs i x within is = rw add-one (drop-cons xs i x within ∙ ap (λ y. y ∷ drop (suc i) xs) (sym is))

-- one operation more is done
pub sees_one : (os : List Operation) (i : ℕ) (o : Operation) (c c' first : Contents) → i < length os → o ≡ get_or os i o → Sees o c
    → ((k : ℕ) → c' k ≡ after o c k) → (SeesAll (drop i os) c → SeesAll os first) → SeesAll (drop (i + 1) os) c' → SeesAll os first
sees_one os i o c c' first within is sees leaves before rest =
    before (subst (λ xs. SeesAll xs c) (sym (drop_one os i o within is))
    (sees, sees_all_same (drop (i + 1) os) c' (after o c) leaves rest))

pub leaves_one : (os : List Operation) (i : ℕ) (o : Operation) (c c' first : Contents) → i < length os → o ≡ get_or os i o
    → ((k : ℕ) → c' k ≡ after o c k) → ((k : ℕ) → after_all (drop i os) c k ≡ after_all os first k) → (k : ℕ)
    → after_all (drop (i + 1) os) c' k ≡ after_all os first k
leaves_one os i o c c' first within is leaves before k =
    after_all_same (drop (i + 1) os) c' (after o c) leaves k
    ∙ ap (λ xs. after_all xs c k) (sym (drop_one os i o within is)) ∙ before k

-- one transaction more has run
pub run_one : (h : List Transaction) (ts : List ℕ) (i : ℕ) (x : Transaction) (c c' first : Contents) → i < length ts
    → slice_get h (get_or ts i 0) ≡ Some x → SeesAll x.operations.items c → ((k : ℕ) → c' k ≡ after_all x.operations.items c k)
    → (IsRun h c (drop i ts) → IsRun h first ts) → IsRun h c' (drop (i + 1) ts) → IsRun h first ts
run_one h ts i x c c' first within there sees leaves before rest =
    before (subst (λ xs. IsRun h c xs) (sym split) (
      subst (λ os. SeesAll os c) (sym are) sees,
      is_run_same h c' (after_all (operations_of h (get_or ts i 0)) c) (drop (i + 1) ts)
          (λ k. leaves k ∙ ap (λ os. after_all os c k) (sym are)) rest,
    ))
  where
    are : operations_of h (get_or ts i 0) ≡ x.operations.items
    are = ap operations_or_none there

    split : drop i ts ≡ get_or ts i 0 ∷ drop (i + 1) ts
    split = rw add-one (drop-cons ts i 0 within)
