-- Whether a transaction is live, by the list of the live ones.
use Rattle.std.proofs.Common.{◌≡◌, ℕ, ℤ, Bool, true, List, length, Option, Some, None, refl, sym, ap, subst₂, position}
use Rattle.std.specs.Prelude.{◌↔◌, IsSome, slice_get}
use Rattle.std.proofs.lemmas.Option.{slice_get_read}
use Rattle.std.proofs.lemmas.Bool.{lt-ltb, ltb-true}
use Rattle.sgt_model.specs.Contents.{Key}
use Rattle.sgt_model.specs.AccessList.{ListedAccess}
use Rattle.sgt_model.specs.Syntax.{ProcedureText}
use Rattle.sgt_sched.specs.LiveProgress.{Progress}
use Rattle.sgt_sched.specs.LiveList.{has_number, progress_at}
use Rattle.sgt_sched.specs.SchedulerView.{SchedulerView, IsAlong, IsKept, state_of}
use Rattle.sgt_sched.specs.Steps.{IsUnended}
use Rattle.sgt_sched.proofs.Lives.{index_member, has_index}

module _ {R A G : Type 0} {chain : R → Key → List (ℕ × Option ℤ)} {settled : R → Key → Option ℤ} {list : A → List ListedAccess}
    {nodes : G → ℕ → Bool} {pairs : G → ℕ → ℕ → Bool} {p : SchedulerView R A G} (kept : IsKept chain settled list nodes pairs p)
    (t : ℕ) where
  -- a transaction with an index among the live ones is a node
  pub found_node : (i : ℕ) → position (has_number t) p.live ≡ Some i → nodes p.graph t ≡ true
  found_node i e = (kept.sound.listed t).1 (index_member t p.live i e)

  -- one that has none was not started, or has ended
  pub not_unended : position (has_number t) p.live ≡ None → IsUnended (state_of chain settled list nodes pairs p) t → ⊥
  not_unended e u = has_index t p.live ((kept.sound.listed t).0 ((kept.unended t).1 (ltb-true t (length p.fates) u.begun, u.unended))) e

  -- a node was started, and has not ended
  pub unended : nodes p.graph t ≡ true → IsUnended (state_of chain settled list nodes pairs p) t
  unended node = let u = (kept.unended t).0 node in record { begun = lt-ltb t (length p.fates) u.0; unended = u.1 }

  -- so it has no fate
  pub no_fate : nodes p.graph t ≡ true → slice_get p.fates t ≡ Some None
  no_fate node = let u = (kept.unended t).0 node in slice_get_read p.fates _ t None refl u.0 (sym u.1)

  -- and goes along its procedure
  pub goes_along : (programs : List ProcedureText) (r : ℕ × Progress) → nodes p.graph t ≡ true → programs ≡ p.procedures
      → r ≡ (t, progress_at p.live t) → IsAlong programs r.1
  goes_along programs r node same is = subst₂ IsAlong (sym same) (ap (λ (x : ℕ × Progress). x.1) (sym is)) (kept.along t node)

  -- an index, or none, says whether it is live
  pub index_node : (o : Option ℕ) → o ≡ position (has_number t) p.live → IsSome o → nodes p.graph t ≡ true
  index_node None e some = absurd (cc)
  index_node (Some i) e some = found_node i (sym e)

  pub index_unended : (o : Option ℕ) → o ≡ position (has_number t) p.live
      → IsSome o ↔ IsUnended (state_of chain settled list nodes pairs p) t
  index_unended None e = ((λ s. absurd (cc)), (λ u. absurd (not_unended (sym e) u)))
  index_unended (Some i) e = ((λ _. unended (found_node i (sym e))), (λ _. refl))
