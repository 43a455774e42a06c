-- How many jobs of an input have been read.
use Rattle.std.specs.Prelude.{◌≡◌, ℕ, ◌+◌, ⊤, List, ◌∷◌, ◌++◌, length, Option, None, Some, IfSome, Ok}
use Rattle.sgt_format.specs.JobLines.{job_of}
use Rattle.sgt_model.specs.declared.call.Call.{Call}
use Rattle.sgt_input.specs.Lines.{Cut}
use Rattle.sgt_input.specs.Ends.{End}
use Rattle.sgt_input.specs.Spelled.{spelled, end_of}
use Rattle.sgt_bank.specs.Jobs.{job_at}

-- known lines start with one that requests this call, and these follow
abbrev pub TakesCall : Option Cut → Call → Option Cut → Type 0
TakesCall None call new = ⊤
TakesCall (Some old) call None = ⊥
TakesCall (Some old) call (Some new) = (line : List ℕ) × (old.given ≡ line ∷ new.given) × (job_of line ≡ Ok call) × (old.ending ≡ new.ending)

-- known lines, the first job's and then others, start with those that request these calls, and these follow
abbrev pub TakesCalls : ℕ → Option Cut → List Call → Option Cut → Type 0
TakesCalls first None requested new = ⊤
TakesCalls first (Some old) requested None = ⊥
TakesCalls first (Some old) requested (Some new) =
    (spelled (job_at first) first old.given ≡ requested ++ spelled (job_at first) (first + length requested) new.given)
    × (end_of (job_at first) first old.given old.ending ≡ end_of (job_at first) (first + length requested) new.given new.ending)

-- known lines from number n on, after a first job's, end so at the next line, or if there is none
abbrev pub EndsWith : ℕ → ℕ → End → Option Cut → Type 0
EndsWith first n end known = IfSome known (λ c. end_of (job_at first) n c.given c.ending ≡ end)
