-- Operations at a position.
use Rattle.std.proofs.Common.{◌≡◌, ◌<◌, ◌==◌, ◌++◌, ℕ, zero, suc, Bool, true, false, cond, List, [], ◌∷◌, Some, length, take, get_or, refl, sym, ap, subst, inl, inr, arith, append_assoc, append-nil}
use Rattle.std.specs.Prelude.{slice_get}
use Rattle.std.specs.Global.{Vec}
use Rattle.std.proofs.lemmas.Bool.{eq-eqb}
use Rattle.std.proofs.lemmas.Grind.{common_steps}
use Rattle.sgt_appends.specs.declared.transaction.Operation.{Operation}
use Rattle.sgt_appends.specs.declared.transaction.Operation.TheVariants.{Append, Read}
use Rattle.sgt_appends.specs.declared.transaction.Transaction.{Transaction}
use Rattle.sgt_appends.specs.Lists.{Has}
use Rattle.sgt_appends.specs.Runs.{operations_or_none}
use Rattle.sgt_appends.specs.Precedences.{appended, Appends, HasReadAfter}

pub has_at : (xs : List ℕ) (i : ℕ) (x : ℕ) → i < length xs → get_or xs i 0 ≡ x → Has xs x
has_at [] i x within is = absurd (omega arith)
has_at (y ∷ xs) zero x within is = inl is
has_at (y ∷ xs) (suc i) x within is = inr (has_at xs i x (omega arith) is)

pub some_more : (o : Operation) (os : List Operation) (k v : ℕ) → Has (appended k os) v → Has (appended k (o ∷ os)) v
some_more (Append key value) os k v has = go (k == key)
  where
    go : (b : Bool) → Has (cond b (value ∷ appended k os) (appended k os)) v
    go true = inr has
    go false = has
some_more (Read key values) os k v has = has

here_appended : (os : List Operation) (k v : ℕ) → Has (appended k (Append k v ∷ os)) v
here_appended os k v = go (k == k) (eq-eqb k k refl)
  where
    go : (b : Bool) → b ≡ true → Has (cond b (v ∷ appended k os) (appended k os)) v
    go true is = inl refl
    go false is = absurd (grind (arith, is))

pub at_append : (os : List Operation) (p k v : ℕ) → slice_get os p ≡ Some (Append k v) → Has (appended k os) v
at_append [] p k v at = absurd (grind (arith, common_steps, at))
at_append (o ∷ os) zero k v at = subst (λ x. Has (appended k (x ∷ os)) v) (sym (is at)) (here_appended os k v)
  where
    is : Some o ≡ Some (Append k v) → o ≡ Append k v
    is e = cc
at_append (o ∷ os) (suc p) k v at = some_more o os k v (at_append os p k v at)

more_read : (o : Operation) (os : List Operation) (k : ℕ) (vs : List ℕ) → ((mine : List ℕ) → (own : List ℕ) × HasReadAfter mine os k own vs)
    → (mine : List ℕ) → (own : List ℕ) × HasReadAfter mine (o ∷ os) k own vs
more_read (Append key value) os k vs all mine = all (cond (k == key) (mine ++ value ∷ []) mine)
more_read (Read key values) os k vs all mine = let it = all mine in (it.0, inr it.1)

pub at_read : (os : List Operation) (p k : ℕ) (vs : Vec ℕ) → slice_get os p ≡ Some (Read k vs) → (mine : List ℕ)
    → (own : List ℕ) × HasReadAfter mine os k own vs.items
at_read [] p k vs at mine = absurd (grind (arith, common_steps, at))
at_read (o ∷ os) zero k vs at mine =
    subst (λ x. (own : List ℕ) × HasReadAfter mine (x ∷ os) k own vs.items) (sym (is at)) (mine, inl (refl, refl, refl))
  where
    is : Some o ≡ Some (Read k vs) → o ≡ Read k vs
    is e = cc
at_read (o ∷ os) (suc p) k vs at mine = more_read o os k vs.items (at_read os p k vs at) mine

-- an operation of transaction t at position p
pub appends_at : (h : List Transaction) (t p k v : ℕ) (x : Transaction) → slice_get h t ≡ Some x
    → slice_get x.operations.items p ≡ Some (Append k v) → Appends h t k v
appends_at h t p k v x there at =
    subst (λ os. Has (appended k os) v) (sym (ap operations_or_none there)) (at_append x.operations.items p k v at)

-- the read at a position comes after what the operations before it append
pub read_place : (os : List Operation) (p k : ℕ) (vs : Vec ℕ) (mine : List ℕ) → slice_get os p ≡ Some (Read k vs)
    → HasReadAfter mine os k (mine ++ appended k (take p os)) vs.items
read_place [] p k vs mine at = absurd (grind (arith, common_steps, at))
read_place (o ∷ os) zero k vs mine at =
    subst (λ x. HasReadAfter mine (x ∷ os) k (mine ++ []) vs.items) (sym (is at)) (inl (refl, sym (append-nil mine), refl))
  where
    is : Some o ≡ Some (Read k vs) → o ≡ Read k vs
    is e = cc
read_place (Append key value ∷ os) (suc p) k vs mine at =
    go (k == key) (λ m. read_place os p k vs m at)
  where
    go : (b : Bool) → ((m : List ℕ) → HasReadAfter m os k (m ++ appended k (take p os)) vs.items)
        → HasReadAfter (cond b (mine ++ value ∷ []) mine) os k
        (mine ++ cond b (value ∷ appended k (take p os)) (appended k (take p os))) vs.items
    go true all = subst (λ own. HasReadAfter (mine ++ value ∷ []) os k own vs.items)
        (append_assoc mine (value ∷ []) (appended k (take p os))) (all (mine ++ value ∷ []))
    go false all = all mine
read_place (Read key values ∷ os) (suc p) k vs mine at = inr (read_place os p k vs mine at)
