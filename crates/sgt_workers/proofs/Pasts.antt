-- Errors of a run's input, and errors of the run itself.
use Rattle.std.proofs.Common.{◌≡◌, ◌↔◌, ◌∙◌, Result, Ok, Err, IfErr, sym, subst, ap}
use Rattle.sgt_workers.specs.declared.errors.PoolError.{PoolError}
use Rattle.sgt_workers.specs.declared.errors.PoolError.TheVariants as error
use Rattle.sgt_workers.specs.Crews.{IsRunError}

error_of : {A : Type 0} → Result A PoolError → PoolError
error_of (Ok x) = error.NoMemory
error_of (Err e) = e

-- an error that is passed on is the same error
pub same_fault : {A B P : Type 0} (r : Result A PoolError) (q : Result B PoolError) (x e : PoolError) → r ≡ Err e → q ≡ Err e
    → ((r ≡ Err x) ↔ P) → ((q ≡ Err x) ↔ P)
unfolding error_of
same_fault r q x e is same iff = (
  λ at. iff.0 (is ∙ ap Err (ap error_of (sym same ∙ at))),
  λ p. same
      ∙ ap Err (ap error_of (sym is ∙ iff.1 p)),
)

-- if the input has no fault, an error of the run itself is not an error of the input
pub no_fault : {A B P : Type 0} (r : Result A PoolError) (q : Result B PoolError) (x : PoolError) (u : A) → r ≡ Ok u
    → IfErr q IsRunError → (IsRunError x → ⊥) → ((r ≡ Err x) ↔ P) → ((q ≡ Err x) ↔ P)
no_fault r q x u passed kept bad iff =
    (λ at. absurd (bad (subst (λ l. IfErr l IsRunError) at kept)), λ p. absurd (subst (λ l. IfErr l (λ _. ⊥)) (sym passed ∙ iff.1 p) tt))
