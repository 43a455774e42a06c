-- One procedure more: each live transaction runs the same one as before.
use Rattle.std.proofs.Common.{◌≡◌, ℕ, zero, suc, ℤ, arith, Bool, true, false, cond, nat_eq, List, [], ◌∷◌, ◌++◌, Option, Some, Result, Ok, Err}
use Rattle.std.specs.Prelude.{slice_get, OnOk, OnErr}
use Rattle.std.proofs.lemmas.Grind.{common_steps}
use Rattle.sgt_model.specs.Contents.{Key}
use Rattle.sgt_model.specs.Configurations.{empty_procedure, procedure_at}
use Rattle.sgt_model.specs.Syntax.{ProcedureText}
use Rattle.sgt_model.specs.AccessList.{ListedAccess}
use Rattle.sgt_sched.specs.SchedulerView.{SchedulerView, IsKept}

-- a list keeps its items
kept_pushed : {X : Type 0} (xs : List X) (new x : X) (n : ℕ) → slice_get xs n ≡ Some x → slice_get (xs ++ new ∷ []) n ≡ Some x
kept_pushed [] new x n at = absurd (grind (arith, common_steps, at))
kept_pushed (y ∷ xs) new x zero at = at
kept_pushed (y ∷ xs) new x (suc n) at = kept_pushed xs new x n at

-- and so do the numbers, whatever the list has at that of the empty procedure
still_at : (programs : List ProcedureText) (procedure program : ProcedureText) (n : ℕ) → procedure_at programs n ≡ Some program
    → procedure_at (programs ++ procedure ∷ []) n ≡ Some program
still_at programs procedure program n = both (nat_eq n 65535) where
  both : (b : Bool) → cond b (Some empty_procedure) (slice_get programs n) ≡ Some program
      → cond b (Some empty_procedure) (slice_get (programs ++ procedure ∷ []) n) ≡ Some program
  both true at = at
  both false at = kept_pushed programs procedure program n at

module _ {R A G : Type 0} {chain : R → Key → List (ℕ × Option ℤ)} {settled : R → Key → Option ℤ} {list : A → List ListedAccess}
    {nodes : G → ℕ → Bool} {pairs : G → ℕ → ℕ → Bool} {before : SchedulerView R A G} (kept : IsKept chain settled list nodes pairs before)
    (procedure : ProcedureText) where
  -- the parts afterwards
  abbrev pub added : SchedulerView R A G
  added = record before { procedures = before.procedures ++ procedure ∷ [] }

  -- what is kept holds of them
  pub added_kept : IsKept chain settled list nodes pairs added
  added_kept = record {
    in_range = kept.in_range;
    begun = kept.begun;
    sound = kept.sound;
    rising = kept.rising;
    unended = kept.unended;
    along = λ t n. still_at before.procedures procedure _ _ (kept.along t n);
  }

  -- a call that adds it, or changes nothing
  pub pushed_kept : {X E : Type 0} (result : Result X E) (now : List ProcedureText) → OnOk result (now ≡ before.procedures ++ procedure ∷ [])
      → OnErr result (now ≡ before.procedures) → IsKept chain settled list nodes pairs (record before { procedures = now })
  pushed_kept (Ok x) now ok err = rw ok added_kept
  pushed_kept (Err e) now ok err = rw err kept
