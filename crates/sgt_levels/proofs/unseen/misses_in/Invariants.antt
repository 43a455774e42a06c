use Rattle.std.proofs.Common.{◌<◌, ℕ}
use Rattle.sgt_levels.specs.Unseen.{MissesAt}
use Rattle.sgt_levels.proofs.unseen.misses_in.Given as goal

abbrev pub invariant-loop-position : goal.invariant-loop-position
invariant-loop-position l = (p : ℕ) → p < l.position → MissesAt l.history l.key l.value l.number p
