-- Operations at their positions, and what they append.
use Rattle.std.proofs.Common.{◌≡◌, ◌<◌, ◌≤◌, ◌+◌, ◌==◌, ◌++◌, ℕ, zero, suc, Bool, true, false, cond, List, [], ◌∷◌, Some, length, take, get_or, refl, sym, ap, ◌∙◌, subst, inl, inr, arith}
use Rattle.std.specs.Prelude.{slice_get}
use Rattle.std.proofs.lemmas.Bool.{eq-eqb}
use Rattle.std.proofs.lemmas.Grind.{common_steps}
use Rattle.sgt_appends.specs.declared.transaction.Operation.{Operation}
use Rattle.sgt_appends.specs.declared.transaction.Operation.TheVariants.{Append}
use Rattle.sgt_appends.specs.Lists.{Has, IsOnce, StandsBefore}
use Rattle.sgt_appends.proofs.Along.{apart}
use Rattle.sgt_appends.specs.Precedences.{appended}
use Rattle.sgt_appends.proofs.Words.{Has-append_left, Has-append_cases, StandsBefore-front}
use Rattle.sgt_appends.proofs.Added.{appended-append}
use Rattle.sgt_appends.proofs.Spots.{at_append, some_more}

pub found_one : (os : List Operation) (i : ℕ) (o : Operation) (k v : ℕ) → i < length os → o ≡ get_or os i o
    → Has (appended k (o ∷ [])) v → Has (appended k os) v
found_one [] i o k v within is has = absurd (omega arith)
found_one (p ∷ os) zero o k v within is has =
    subst (λ xs. Has xs v) (sym (appended-append k (p ∷ []) os))
    (Has-append_left (appended k (p ∷ [])) (appended k os) v (subst (λ x. Has (appended k (x ∷ [])) v) is has))
found_one (p ∷ os) (suc i) o k v within is has = some_more p os k v (found_one os i o k v (omega arith) is has)

pub none_more : (os : List Operation) (i : ℕ) (o : Operation) (k v : ℕ) → take (i + 1) os ≡ take i os ++ o ∷ []
    → ¬ Has (appended k (take i os)) v → ¬ Has (appended k (o ∷ [])) v → ¬ Has (appended k (take (i + 1) os)) v
none_more os i o k v longer none not_here has =
    elim (Has-append_cases (appended k (take i os)) (appended k (o ∷ [])) v
    (subst (λ xs. Has xs v) (ap (appended k) longer ∙ appended-append k (take i os) (o ∷ [])) has)) [
      | inl w ↦ none w
      | inr w ↦ not_here w
    ]

heads : (k v : ℕ) (os : List Operation) → appended k (Append k v ∷ os) ≡ v ∷ appended k os
heads k v os = go (k == k) (eq-eqb k k refl)
  where
    go : (b : Bool) → b ≡ true → cond b (v ∷ appended k os) (appended k os) ≡ v ∷ appended k os
    go true is = refl
    go false is = absurd (grind (arith, is))

pub at_both : (os : List Operation) (p q k v w : ℕ) → p < q → slice_get os p ≡ Some (Append k v) → slice_get os q ≡ Some (Append k w)
    → StandsBefore (appended k os) v w
at_both [] p q k v w less one other = absurd (grind (arith, common_steps, one))
at_both (o ∷ os) zero zero k v w less one other = absurd (omega arith)
at_both (o ∷ os) (suc p) zero k v w less one other = absurd (omega arith)
at_both (o ∷ os) zero (suc q) k v w less one other =
    ([], appended k os, subst (λ x. appended k (x ∷ os) ≡ v ∷ appended k os) (sym (is one)) (heads k v os), at_append os q k w other)
  where
    is : Some o ≡ Some (Append k v) → o ≡ Append k v
    is e = cc
at_both (o ∷ os) (suc p) (suc q) k v w less one other =
    subst (λ xs. StandsBefore xs v w) (sym (appended-append k (o ∷ []) os))
    (StandsBefore-front (appended k (o ∷ [])) (appended k os) v w (at_both os p q k v w (omega arith) one other))

pub IsOnce-following : (xs ys : List ℕ) → IsOnce (xs ++ ys) → IsOnce ys
IsOnce-following [] ys once = once
IsOnce-following (x ∷ xs) ys once = IsOnce-following xs ys once.1

-- the value appended at a position is not among those that the operations before it append
pub not_yet : (os : List Operation) (q p k v : ℕ) → IsOnce (appended k os) → slice_get os p ≡ Some (Append k v) → q ≤ p
    → ¬ Has (appended k (take q os)) v
not_yet [] q p k v once at less has = absurd (grind (arith, common_steps, at))
not_yet (o ∷ os) zero p k v once at less has = has
not_yet (o ∷ os) (suc q) zero k v once at less has = absurd (omega arith)
not_yet (o ∷ os) (suc q) (suc p) k v once at less has =
    let parted : IsOnce (appended k (o ∷ []) ++ appended k os) = subst (λ xs. IsOnce xs) (appended-append k (o ∷ []) os) once in
    elim (Has-append_cases (appended k (o ∷ [])) (appended k (take q os)) v
    (subst (λ xs. Has xs v) (appended-append k (o ∷ []) (take q os)) has)) [
      | inl w ↦ apart (appended k (o ∷ [])) (appended k os) v parted w (at_append os p k v at)
      | inr w ↦ not_yet os q p k v (IsOnce-following (appended k (o ∷ [])) (appended k os) parted) at (omega arith) w
    ]
