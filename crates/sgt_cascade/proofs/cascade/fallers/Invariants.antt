use Rattle.std.proofs.Common.{length}
use Rattle.sgt_cascade.proofs.Fallen.{IsStanding}
use Rattle.sgt_cascade.proofs.cascade.fallers.Given as goal

abbrev pub invariant-loop-pair : goal.invariant-loop-pair
invariant-loop-pair l = IsStanding l.fn.read_from l.fn.live l.fn.t l.standing

abbrev pub decreases-loop-pair : goal.decreases-loop-pair
decreases-loop-pair l = length l.standing
