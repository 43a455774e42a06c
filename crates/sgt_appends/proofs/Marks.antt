-- One transaction more is named.
use Rattle.std.proofs.Common.{◌≡◌, ◌≢◌, ◌<◌, ◌⊎◌, ℕ, Bool, true, false, List, [], ◌∷◌, ◌++◌, Some, length, get_or, refl, ◌∙◌, subst, inl, inr, arith}
use Rattle.std.specs.Prelude.{slice_get, slice_set}
use Rattle.std.proofs.Math.ListN.{length-set}
use Rattle.std.proofs.lemmas.Bool.{cases_eq}
use Rattle.std.proofs.lemmas.Grind.{common_steps}
use Rattle.sgt_appends.specs.declared.transaction.Transaction.{Transaction}
use Rattle.sgt_appends.specs.declared.transaction.Status.{Status}
use Rattle.sgt_appends.specs.declared.transaction.Status.TheVariants.{Committed, Aborted, Unknown}
use Rattle.sgt_appends.specs.Lists.{Has}
use Rattle.sgt_appends.specs.Runs.{MayRun}
use Rattle.sgt_appends.specs.Tables.{IsNamed}
use Rattle.sgt_appends.proofs.Words.{Has-append_left, Has-append_right, Has-append_cases, IsOnce-append}

may_run_by : (h : List Transaction) (t : ℕ) (x : Transaction) (status : Status) → slice_get h t ≡ Some x → x.status ≡ status
    → status ≢ Aborted → MayRun h t
may_run_by h t x Committed there is runs = inl (x, there, is)
may_run_by h t x Unknown there is runs = inr (x, there, is)
may_run_by h t x Aborted there is runs = absurd (runs refl)

last_is : (t u : ℕ) → Has (t ∷ []) u → t ≡ u
last_is t u (inl same) = same
last_is t u (inr none) = absurd none

pub named_one : (h : List Transaction) (ts : List ℕ) (marks : List Bool) (t : ℕ) (x : Transaction) → IsNamed h ts marks
    → t < length h → get_or marks t false ≡ false → slice_get h t ≡ Some x → x.status ≢ Aborted
    → IsNamed h (ts ++ t ∷ []) (slice_set marks t true)
named_one h ts marks t x are within unmarked there runs = record {
  once = IsOnce-append ts (t ∷ []) are.once ((λ none. none), tt) (λ u has last. not_marked u has (last_is t u last));
  may_run = λ u has. may_run u (Has-append_cases ts (t ∷ []) u has);
  marked = λ u has. marked u (Has-append_cases ts (t ∷ []) u has);
  named = named;
  long = length-set marks t true ∙ are.long;
}
  where
    in_marks : t < length marks
    in_marks = omega (arith, are.long, within)

    not_marked : (u : ℕ) → Has ts u → t ≢ u
    not_marked u has same = grind (arith, common_steps, are.marked u has, same, unmarked)

    may_run : (u : ℕ) → Has ts u ⊎ Has (t ∷ []) u → MayRun h u
    may_run u (inl has) = are.may_run u has
    may_run u (inr last) = subst (λ v. MayRun h v) (last_is t u last) (may_run_by h t x x.status there refl runs)

    marked : (u : ℕ) → Has ts u ⊎ Has (t ∷ []) u → get_or (slice_set marks t true) u false ≡ true
    marked u (inl has) = grind (arith, common_steps, are.marked u has, not_marked u has)
    marked u (inr last) = let same : t ≡ u = last_is t u last in grind (arith, common_steps, in_marks, same)

    named : (u : ℕ) → get_or (slice_set marks t true) u false ≡ true → Has (ts ++ t ∷ []) u
    named u is = elim (cases_eq t u) [
      | inl same ↦ Has-append_right ts (t ∷ []) u (inl same)
      | inr differ ↦ Has-append_left ts (t ∷ []) u (are.named u (grind (arith, common_steps, is, differ)))
    ]
