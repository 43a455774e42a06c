use Rattle.sgt_access.proofs.Collected.{Collected}
use Rattle.sgt_access.proofs.places.Places.tids_at.Given as goal

abbrev pub invariant-loop-place : goal.invariant-loop-place
invariant-loop-place l = Collected l.places l.self.tids l.left l.tids.items

abbrev pub decreases-loop-place : goal.decreases-loop-place
decreases-loop-place l = l.left
