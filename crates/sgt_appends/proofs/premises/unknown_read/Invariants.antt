use Rattle.std.proofs.Common.{◌<◌, ℕ}
use Rattle.sgt_appends.specs.Reads.{HasNoUnknownRead}
use Rattle.sgt_appends.proofs.premises.unknown_read.Given as goal

abbrev pub invariant-loop-number : goal.invariant-loop-number
invariant-loop-number l = (t : ℕ) → t < l.number → HasNoUnknownRead l.history t
