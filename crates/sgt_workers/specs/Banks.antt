-- The input of a run of jobs.
use Rattle.std.specs.Prelude.{◌≡◌, ℕ, ◌≤◌, List, length, Some, slice_get}
use Rattle.sgt_model.specs.declared.limits.Limits.{Limits}
use Rattle.sgt_model.specs.Bounds.{AreInRange}
use Rattle.sgt_model.specs.Databases.{contents_of}
use Rattle.sgt_model.specs.Configurations.{Configuration, configuration}
use Rattle.sgt_audit.specs.declared.job.Job.{Job}
use Rattle.sgt_workers.specs.declared.bank.Bank.{Bank}

-- the configuration of a bank's engine
abbrev pub engine_configuration : Bank → Configuration
engine_configuration bank = configuration (contents_of bank.opening) bank.procedures.items bank.limits

-- how many workers there may be
abbrev pub AreWorkers : ℕ → Type 0
AreWorkers workers = (1 ≤ workers) × (workers ≤ 16)

-- how many tries a job may have
abbrev pub AreTries : ℕ → Type 0
AreTries tries = (1 ≤ tries) × (tries ≤ 1000)

-- an engine accepts these limits, and each worker may have a live transaction
abbrev pub AreLimitsFor : ℕ → Limits → Type 0
AreLimitsFor workers limits = AreInRange limits × (workers ≤ limits.live)

-- each job's number is its index
abbrev pub AreNumbered : List Job → Type 0
AreNumbered jobs = (i : ℕ) (job : Job) → slice_get jobs i ≡ Some job → job.number ≡ i

-- there are not too many jobs, and they are numbered from 0
abbrev pub AreJobs : List Job → Type 0
AreJobs jobs = (length jobs ≤ 1000000) × AreNumbered jobs
