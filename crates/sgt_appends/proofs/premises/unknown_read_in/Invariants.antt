use Rattle.std.proofs.Common.{◌<◌, ℕ, List}
use Rattle.sgt_appends.specs.Reads.{IsReadAt}
use Rattle.sgt_appends.proofs.premises.unknown_read_in.Given as goal

abbrev pub invariant-loop-position : goal.invariant-loop-position
invariant-loop-position l = (p k : ℕ) (seen : List ℕ) → p < l.position → ¬ IsReadAt l.history l.number p k seen
