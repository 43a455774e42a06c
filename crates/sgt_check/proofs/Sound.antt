-- The verdict, by what shows whether a history is serializable and by its first violation of recoverability.
use Rattle.std.proofs.Common.{◌≡◌, ◌↔◌, ℕ, Bool, true, false, not, List, refl, sym}
use Rattle.std.specs.Prelude.{Option, Some, None, is_some}
use Rattle.std.proofs.lemmas.Bool.{true≢false}
use Rattle.sgt_classes.specs.declared.operation.Operation.{Operation}
use Rattle.sgt_classes.specs.declared.operation.Violation.{Violation}
use Rattle.sgt_classes.specs.declared.serial.Serializability.{Serializability}
use Rattle.sgt_classes.specs.Classes.{BreaksRecoverability, IsFirstViolation}
use Rattle.sgt_classes.specs.Equivalence.{IsSerializable}
use Rattle.sgt_classes.specs.SerialOrders.{IsSerial}
use Rattle.sgt_check.specs.Checks.{IsVerdict}

-- no violation is reported exactly if there is none
pub none_reported : (Breaks : ℕ → ℕ → Type 0) (v : Option Violation) (none : Bool) → IsFirstViolation Breaks v → is_some v ≡ not none
    → (none ≡ true) ↔ ((i j : ℕ) → ¬ Breaks i j)
none_reported Breaks None true reported is = (λ _. reported, λ _. refl)
none_reported Breaks None false reported is = absurd (true≢false (sym is))
none_reported Breaks (Some v) true reported is = absurd (true≢false is)
none_reported Breaks (Some v) false reported is = (λ yes. absurd (true≢false (sym yes)), λ all. absurd (all v.earlier v.later reported.0))

-- if a serial order is shown, no violation of recoverability is reported exactly if the history is serializable and
-- recoverable
pub sound : (h : List Operation) (s : Serializability) (v : Option Violation) (none : Bool) → IsSerial s → is_some v ≡ not none
    → (IsSerial s ↔ IsSerializable h) → IsFirstViolation (BreaksRecoverability h) v → IsVerdict h none
sound h s v none serial is exact first =
    let reported = none_reported _ v none first is in
    (λ yes. (exact.0 serial, reported.0 yes), λ both. reported.1 both.1)
