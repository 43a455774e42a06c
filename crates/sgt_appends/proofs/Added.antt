-- What more operations append.
use Rattle.std.proofs.Common.{◌≡◌, ◌+◌, ◌<◌, ◌==◌, ℕ, Bool, true, false, cond, List, [], ◌∷◌, ◌++◌, Some, length, take, drop, get_or, refl, sym, ap, ◌∙◌, subst, append-nil}
use Rattle.std.specs.Prelude.{slice_get}
use Rattle.std.proofs.Transfers.{drop-appended}
use Rattle.std.proofs.lemmas.List.{take_more, take-append-drop}
use Rattle.sgt_appends.specs.declared.transaction.Operation.{Operation}
use Rattle.sgt_appends.specs.declared.transaction.Operation.TheVariants.{Append, Read}
use Rattle.sgt_appends.specs.declared.transaction.Transaction.{Transaction}
use Rattle.sgt_appends.specs.Precedences.{appended}
use Rattle.sgt_appends.specs.Reads.{own_at}
use Rattle.sgt_appends.specs.Runs.{operations_or_none}

pub appended-append : (k : ℕ) (os ps : List Operation) → appended k (os ++ ps) ≡ appended k os ++ appended k ps
appended-append k [] ps = refl
appended-append k (Append key value ∷ os) ps = step (k == key) (appended-append k os ps)
  where
    step : (b : Bool) → appended k (os ++ ps) ≡ appended k os ++ appended k ps
        → cond b (value ∷ appended k (os ++ ps)) (appended k (os ++ ps)) ≡ cond b (value ∷ appended k os) (appended k os) ++ appended k ps
    step true e = ap (λ xs. value ∷ xs) e
    step false e = e
appended-append k (Read key values ∷ os) ps = appended-append k os ps

-- what an append adds to the values of each key
pub noted_append : (k key value : ℕ) (xs : List ℕ) → cond (k == key) (xs ++ value ∷ []) xs ≡ xs ++ appended k (Append key value ∷ [])
noted_append k key value xs = step (k == key)
  where
    step : (b : Bool) → cond b (xs ++ value ∷ []) xs ≡ xs ++ cond b (value ∷ []) []
    step true = refl
    step false = sym (append-nil xs)

-- one operation more
pub appended_more : (k i : ℕ) (os : List Operation) (o : Operation) → i < length os → o ≡ get_or os i o
    → appended k (take i os) ++ appended k (o ∷ []) ≡ appended k (take (i + 1) os)
appended_more k i os o within is =
    sym (ap (appended k) (take_more os i o within ∙ ap (λ x. take i os ++ x ∷ []) (sym is)) ∙ appended-append k (take i os) (o ∷ []))

-- what the operations from a position on append, after those before it
pub appended_beyond : (k p : ℕ) (os : List Operation) → drop (length (appended k (take p os))) (appended k os) ≡ appended k (drop p os)
appended_beyond k p os =
    drop-appended (appended k (take p os)) (appended k os) (appended k (drop p os))
    (ap (appended k) (sym (take-append-drop p os)) ∙ appended-append k (take p os) (drop p os))

-- what a transaction appends up to a position and there
pub own_next : (h : List Transaction) (t k i : ℕ) (x : Transaction) (os : List Operation) (o : Operation) (old new : List ℕ)
    → slice_get h t ≡ Some x → os ≡ x.operations.items → i < length os → o ≡ get_or os i o → old ≡ own_at h t i k
    → new ≡ old ++ appended k (o ∷ []) → new ≡ own_at h t (i + 1) k
own_next h t k i x os o old new there is less here was more =
    more ∙ ap (λ xs. xs ++ appended k (o ∷ [])) was
    ∙ subst (λ ps. appended k (take i ps) ++ appended k (o ∷ []) ≡ appended k (take (i + 1) ps))
    (sym (ap operations_or_none there ∙ sym is)) (appended_more k i os o less here)
