-- Line 1 of an input, and whether it is a valid opening.
use Rattle.std.specs.Prelude.{◌≡◌, ◌≢◌, ℕ, false, List, [], ◌∷◌, Option, IfSome, Err}
use Rattle.std.specs.Io.KnownBytes.{Consumes}
use Rattle.sgt_format.specs.Openings.{Opens, Refuses}
use Rattle.sgt_format.specs.declared.opening.Opening.{Opening}
use Rattle.sgt_format.specs.declared.errors.OpeningError.{OpeningError}
use Rattle.sgt_format.specs.declared.errors.OpeningError.TheVariants as opening_error
use Rattle.sgt_input.specs.declared.fault.Fault.{Fault}
use Rattle.sgt_input.specs.Lines.{Ending, cut_within, has_break, whole_lines}
use Rattle.sgt_input.specs.Intake.{Intake, Gives, before_input, bytes_left, cut_left, taken}
use Rattle.sgt_input.specs.Ends.{fault_of_opening, no_opening}

-- line 1 of an input with this limit was returned, and it spells this opening
pub record HasOpened (least most : ℕ) (input : Option (List ℕ)) (i : Intake) (rest : Option (List ℕ)) (o : Opening) : Type 0 where
  pub opens : Opens least i.line o
  pub gives : Gives (cut_left (before_input most) input) i.line (cut_left i rest)
  pub number : i.number ≡ 1
  pub took : Consumes (bytes_left (before_input most) input) (bytes_left i rest) (taken i)
  pub unbroken : has_break i.line ≡ false

-- these lines are refused with this fault: there is no line 1, or it is no valid opening
abbrev pub LinesRefused : ℕ → List (List ℕ) → Ending → Fault → Type 0
LinesRefused least [] ending f = no_opening ending ≡ Err f
LinesRefused least (line ∷ later) ending f =
    (e : OpeningError) × Refuses least line e × (e ≢ opening_error.NoMemory) × (f ≡ fault_of_opening e)

-- the same of known bytes with this limit
abbrev pub IsRefused : ℕ → ℕ → Option (List ℕ) → Fault → Type 0
IsRefused least most input f =
    IfSome input (λ bytes. LinesRefused least (cut_within most bytes).given (cut_within most bytes).ending f)

-- between the two, known bytes were read that have no whole line
abbrev pub ReadsNoLine : Option (List ℕ) → Option (List ℕ) → Type 0
ReadsNoLine input rest = (read : List ℕ) × Consumes input rest read × (whole_lines read ≡ [])
