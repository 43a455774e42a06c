use Rattle.std.proofs.Common.{◌<◌, length}
use Rattle.sgt_cycle.specs.Links.{is_link}
use Rattle.sgt_cycle.proofs.Walked.{Walked}
use Rattle.sgt_cycle.proofs.paths.walk.Given as goal

abbrev pub invariant-loop-list : goal.invariant-loop-list
invariant-loop-list l = (l.at < length l.list) × Walked (is_link l.links) l.fn.source l.list l.at l.path

abbrev pub decreases-loop-list : goal.decreases-loop-list
decreases-loop-list l = l.at
