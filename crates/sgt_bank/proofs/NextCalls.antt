-- Laws of the next line of a bank's input, which is at fault, or is not there.
use Rattle.std.proofs.Common.{◌≡◌, ℕ, ◌+◌, List, ap, ◌∙◌, subst}
use Rattle.std.specs.Prelude.{Option, None, Some, Err}
use Rattle.sgt_format.specs.JobLines.{job_of}
use Rattle.sgt_input.specs.declared.fault.Fault.{Fault}
use Rattle.sgt_input.specs.Lines.{Cut}
use Rattle.sgt_input.specs.Intake.{Explains, Gives}
use Rattle.sgt_input.specs.Ends.{IsOfInput}
use Rattle.sgt_input.specs.Spelled.{at_line, or_later, end_of}
use Rattle.sgt_input.proofs.FaultsRead.{explained-end}
use Rattle.sgt_bank.specs.Jobs.{job_at, unless_too_many}
use Rattle.sgt_bank.specs.Taking.{EndsWith}

-- it is at fault
pub call-fails : (first n m : ℕ) (old new : Option Cut) (line : List ℕ) (f : Fault) → m ≡ n → Gives old line new
    → at_line m (job_of line) ≡ Err f → EndsWith first n (Err f) old
call-fails first n m None new line f number gives is = tt
call-fails first n m (Some old) None line f number gives is = absurd gives
call-fails first n m (Some old) (Some new) line f number gives is =
    subst (λ k. EndsWith first k (Err f) (Some old)) number (
    ap (λ ls. end_of (job_at first) m ls old.ending) gives.0
    ∙ ap (λ r. or_later (unless_too_many first m r) (end_of (job_at first) (m + 1) new.given old.ending)) is)

-- it is not there
pub no-call-fits : (number : ℕ) (known : Option Cut) (f : Fault) → Explains f number known → IsOfInput f → (first : ℕ)
    → EndsWith first (number + 1) (Err f) known
no-call-fits number None f explained exact first = tt
no-call-fits number (Some c) f explained exact first =
    let none = explained-end number (Some c) f explained exact in
    ap (λ (x : Cut). end_of (job_at first) (number + 1) x.given x.ending) none.1 ∙ none.2
