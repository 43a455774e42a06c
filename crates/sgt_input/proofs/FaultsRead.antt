-- Laws of a line that was read, or of no line: the fault is what the input spells there.
use Rattle.std.proofs.Common.{◌≡◌, ◌≢◌, ℕ, ◌+◌, refl, ap, sym, ◌∙◌, subst}
use Rattle.std.specs.Prelude.{Option, Result, Ok, Err, IfOk, IfErr}
use Rattle.sgt_format.specs.declared.errors.LineError.{LineError}
use Rattle.sgt_format.specs.declared.errors.LineError.TheVariants as line_error
use Rattle.sgt_input.specs.declared.fault.Fault.{Fault}
use Rattle.sgt_input.specs.declared.fault.Fault.TheVariants as fault
use Rattle.sgt_input.specs.Lines.{AtLongLine, AtLimit, Cut, Ending}
use Rattle.sgt_input.specs.Intake.{EndsAs, Explains}
use Rattle.sgt_input.specs.Ends.{IsOfInput, end_at, fault_in}
use Rattle.sgt_input.specs.Spelled.{at_line}

-- the result of reading a line stands for what it spells
pub spells : {A B : Type 0} (of : B → A) (n : ℕ) (said : Result A LineError) (read : Result B LineError) (x : B)
    → IfOk read (λ y. said ≡ Ok (of y)) → at_line n read ≡ Ok x → at_line n said ≡ Ok (of x)
spells of n said (Ok y) x reported is =
    let same : y ≡ x = cc is in ap (at_line n) reported ∙ ap (λ z. Ok (of z)) same
spells of n said (Err e) x reported is = absurd (cc is)

pub spells-none : {A B : Type 0} (n : ℕ) (said : Result A LineError) (read : Result B LineError) (f : Fault)
    → IfErr read (λ e. e ≢ line_error.NoMemory → said ≡ Err e) → at_line n read ≡ Err f → IsOfInput f → at_line n said ≡ Err f
spells-none n said (Ok y) f reported is exact = absurd (cc is)
spells-none n said (Err line_error.NotJson) f reported is exact =
    let same : fault_in n line_error.NotJson ≡ f = cc is in ap (at_line n) (reported (λ same. absurd (cc same))) ∙ ap Err same
spells-none n said (Err line_error.BadLine) f reported is exact =
    let same : fault_in n line_error.BadLine ≡ f = cc is in ap (at_line n) (reported (λ same. absurd (cc same))) ∙ ap Err same
spells-none n said (Err line_error.NoMemory) f reported is exact =
    let same : f ≡ fault.NoMemory = cc (sym is) in absurd (subst IsOfInput same exact)

-- a line is too long, or the input is
pub explained-end : (number : ℕ) (known : Option Cut) (f : Fault) → Explains f number known → IsOfInput f
    → (ending : Ending) × EndsAs ending known × (end_at (number + 1) ending ≡ Err f)
explained-end number known (fault.LongLine n) explained exact =
    (AtLongLine, explained.1, ap (λ k. Err (fault.LongLine k)) (sym explained.0))
explained-end number known fault.TooLong explained exact = (AtLimit, explained, refl)
explained-end number known fault.Reading explained exact = absurd exact
explained-end number known fault.Writing explained exact = absurd exact
explained-end number known fault.NoMemory explained exact = absurd exact
explained-end number known fault.NoOpening explained exact = absurd explained
explained-end number known (fault.NotJson n) explained exact = absurd explained
explained-end number known (fault.BadLine n) explained exact = absurd explained
explained-end number known (fault.BadRecord n) explained exact = absurd explained
explained-end number known fault.BadLimits explained exact = absurd explained
explained-end number known (fault.BadOpening k) explained exact = absurd explained
explained-end number known (fault.ProcShape n place) explained exact = absurd explained
explained-end number known (fault.ProcFlaw n k) explained exact = absurd explained
explained-end number known fault.TooManyJobs explained exact = absurd explained
explained-end number known fault.Spawn explained exact = absurd explained
explained-end number known fault.Mismatch explained exact = absurd explained
