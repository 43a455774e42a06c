use Rattle.std.proofs.Common.{ℕ, ◌+◌, ◌<◌, slice_index}
use Rattle.sgt_cycle.specs.Links.{is_link}
use Rattle.sgt_cycle.specs.Path.{Holds}
use Rattle.sgt_cycle.proofs.paths.is_walk.Given as goal

abbrev pub invariant-loop-i : goal.invariant-loop-i
invariant-loop-i l = (k : ℕ) → k + 1 < l.i → Holds (is_link l.links) (slice_index l.path k) (slice_index l.path (k + 1))
