-- What an input of a bank requests, and its first fault.
use Rattle.std.specs.Prelude.{◌≡◌, ◌≢◌, ◌⊎◌, ℕ, List, [], ◌∷◌, Ok, Err}
use Rattle.sgt_format.specs.Openings.{Refuses}
use Rattle.sgt_format.specs.FilledOpenings.{OpensWith, RefusesRecord, after_records, leading_records, number_after}
use Rattle.sgt_format.specs.declared.opening.Opening.{Opening}
use Rattle.sgt_format.specs.declared.errors.OpeningError.{OpeningError}
use Rattle.sgt_format.specs.declared.errors.OpeningError.TheVariants as opening_error
use Rattle.sgt_audit.specs.declared.job.Job.{Job}
use Rattle.sgt_input.specs.declared.fault.Fault.{Fault}
use Rattle.sgt_input.specs.declared.fault.Fault.TheVariants as fault
use Rattle.sgt_input.specs.Lines.{Ending, cut_within}
use Rattle.sgt_input.specs.Ends.{IsOfInput, fault_of_opening, no_opening}
use Rattle.sgt_input.specs.Spelled.{spelled, end_of}
use Rattle.sgt_bank.specs.Jobs.{job_at, numbered}

-- line 1 and the record lines after it are an opening with capacity for each worker, and each later line requests a
-- job
pub record IsInput (workers : ℕ) (line : List ℕ) (later : List (List ℕ)) (ending : Ending) (opening : Opening) (jobs : List Job) : Type 0 where
  pub opens : OpensWith workers line (leading_records later) opening
  pub jobs_are : jobs ≡ numbered 0 (spelled (job_at (number_after later)) (number_after later) (after_records later))
  pub no_fault : end_of (job_at (number_after later)) (number_after later) (after_records later) ending ≡ Ok tt

-- the same of these lines: the first of them is line 1
abbrev pub LinesRequest : ℕ → List (List ℕ) → Ending → Opening → List Job → Type 0
LinesRequest workers [] ending opening jobs = ⊥
LinesRequest workers (line ∷ later) ending opening jobs = IsInput workers line later ending opening jobs

-- these bytes, with this limit, request these jobs after this opening
abbrev pub InputRequests : ℕ → ℕ → List ℕ → Opening → List Job → Type 0
InputRequests workers most bytes opening jobs =
    LinesRequest workers (cut_within most bytes).given (cut_within most bytes).ending opening jobs

-- line 1 is refused as an opening, with this fault
pub record OpeningIsRefused (workers : ℕ) (line : List ℕ) (f : Fault) : Type 0 where
  pub error : OpeningError
  pub refuses : Refuses workers line error
  pub known : error ≢ opening_error.NoMemory
  pub fault_is : f ≡ fault_of_opening error

-- line 1 is an opening, and a record line after it is refused, with this fault
pub record RecordIsRefused (workers : ℕ) (line : List ℕ) (later : List (List ℕ)) (f : Fault) : Type 0 where
  pub bad : ℕ
  pub refuses : RefusesRecord workers line (leading_records later) bad
  pub fault_is : f ≡ fault.BadRecord bad

-- line 1 and the record lines after it are an opening, and this is the first fault after them
pub record IsAfter (workers : ℕ) (line : List ℕ) (later : List (List ℕ)) (ending : Ending) (f : Fault) : Type 0 where
  pub opening : Opening
  pub opens : OpensWith workers line (leading_records later) opening
  pub ends : end_of (job_at (number_after later)) (number_after later) (after_records later) ending ≡ Err f

-- the first fault of these lines
abbrev pub LinesFail : ℕ → List (List ℕ) → Ending → Fault → Type 0
LinesFail workers [] ending f = no_opening ending ≡ Err f
LinesFail workers (line ∷ later) ending f =
    OpeningIsRefused workers line f ⊎ RecordIsRefused workers line later f ⊎ IsAfter workers line later ending f

-- the first fault of these bytes, with this limit
abbrev pub InputFails : ℕ → ℕ → List ℕ → Fault → Type 0
InputFails workers most bytes f = LinesFail workers (cut_within most bytes).given (cut_within most bytes).ending f

-- a fault of the input, and not of what runs it
abbrev pub IsOfText : Fault → Type 0
IsOfText fault.Spawn = ⊥
IsOfText fault.Mismatch = ⊥
IsOfText f = IsOfInput f
