use Rattle.std.proofs.Common.{◌<◌, ℕ}
use Rattle.sgt_levels.specs.Unseen.{MissesIn}
use Rattle.sgt_levels.proofs.unseen.none_saw.Given as goal

abbrev pub invariant-loop-number : goal.invariant-loop-number
invariant-loop-number l = (t : ℕ) → t < l.number → MissesIn l.history l.key l.value t
