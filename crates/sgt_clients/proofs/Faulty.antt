-- The errors of a check.
use Rattle.std.proofs.Common.{◌≡◌, ◌<◌, ◌∙◌, length, ℕ, List, refl, sym, subst}
use Rattle.std.specs.Prelude.{Option, Some, Result, Err, IfErr, IfSome}
use Rattle.sgt_check.specs.declared.fault.CheckFault.{CheckFault}
use Rattle.sgt_check.specs.declared.fault.CheckFault.TheVariants.{TooLong, NoMemory}
use Rattle.sgt_clients.specs.declared.fault.ClientsFault.{ClientsFault}
use Rattle.sgt_clients.specs.declared.fault.ClientsFault.TheVariants as fault
use Rattle.sgt_clients.specs.Checks.{IsFaultOf}
use Rattle.sgt_clients.specs.Faults.{IsOwn}

-- an error of the text is one of the input
pub own_fault : (rest : Option (List ℕ)) (f : ClientsFault) → IsOwn f → IfSome rest (λ input. IsFaultOf input f)
own_fault (Some bytes) (fault.Check TooLong) own = absurd (cc)
own_fault _ _ own = tt

-- an error of reading is one of the input
pub input_fault : (rest : Option (List ℕ)) (f : CheckFault) → (f ≡ TooLong → IfSome rest (λ bytes. 268435456 < length bytes))
    → IfSome rest (λ input. IsFaultOf input (fault.Check f))
input_fault (Some bytes) TooLong long = long refl
input_fault _ _ long = tt

-- an error of the text is none of reading or writing
pub own_not : {A : Type 0} (r : Result A ClientsFault) (g : ClientsFault) (f : CheckFault) → IsOwn g → r ≡ Err g → r ≡ Err (fault.Check f)
    → f ≡ NoMemory
own_not r g f own one other = subst (λ s. IfErr s IsOwn) (sym one ∙ other) own
