use Rattle.std.proofs.Common.{◌≡◌}
use Rattle.sgt_timeline.specs.Drawn.{all_places}
use Rattle.sgt_timeline.proofs.drawn.places_below.Given as goal

abbrev pub invariant-loop-place : goal.invariant-loop-place
invariant-loop-place l = l.places.items ≡ all_places l.place
