-- The jobs that the lines of an input request.
use Rattle.std.specs.Prelude.{ℕ, ◌+◌, nat_lt, if◌then◌else◌, List, [], ◌∷◌, Result, Ok, Err}
use Rattle.sgt_format.specs.JobLines.{job_of}
use Rattle.sgt_model.specs.declared.call.Call.{Call}
use Rattle.sgt_audit.specs.declared.job.Job.{Job}
use Rattle.sgt_input.specs.declared.fault.Fault.{Fault}
use Rattle.sgt_input.specs.declared.fault.Fault.TheVariants as fault
use Rattle.sgt_input.specs.Spelled.{at_line}

-- what line n requests, unless it is the job after the 1,000,000th; line `first` requests the first job
abbrev pub unless_too_many : ℕ → ℕ → Result Call Fault → Result Call Fault
unless_too_many first n (Ok call) = if nat_lt n (first + 1000000) then Ok call else Err fault.TooManyJobs
unless_too_many first n (Err f) = Err f

-- the call that line n requests, or its fault
abbrev pub job_at : ℕ → ℕ → List ℕ → Result Call Fault
job_at first n line = unless_too_many first n (at_line n (job_of line))

-- the jobs of these calls, numbered from n on
abbrev pub numbered : ℕ → List Call → List Job
numbered n [] = []
numbered n (c ∷ cs) = record { number = n; procedure = c.procedure; args = c.args } ∷ numbered (n + 1) cs
