use Rattle.std.proofs.Common.{◌≡◌, ◌<◌, ℕ, Some, slice_get}
use Rattle.sgt_audit.specs.declared.job.Job.{Job}
use Rattle.sgt_workers.proofs.bank.are_numbered.Given as goal

abbrev pub invariant-loop-i : goal.invariant-loop-i
invariant-loop-i l = (k : ℕ) (job : Job) → k < l.i → slice_get l.jobs k ≡ Some job → job.number ≡ k
