use Rattle.std.proofs.Common.{◌<◌, ℕ}
use Rattle.sgt_appends.specs.Reads.{AreCleanIn}
use Rattle.sgt_appends.proofs.reads.first_fault.Given as goal

abbrev pub invariant-loop-number : goal.invariant-loop-number
invariant-loop-number l = (t : ℕ) → t < l.number → AreCleanIn l.history t
