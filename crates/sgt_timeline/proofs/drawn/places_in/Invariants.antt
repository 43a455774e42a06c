use Rattle.std.proofs.Common.{◌≤◌, length}
use Rattle.sgt_timeline.specs.Drawn.{AreRising}
use Rattle.sgt_timeline.proofs.drawn.places_in.Given as goal

abbrev pub invariant-loop-place : goal.invariant-loop-place
invariant-loop-place l = record {
  once : AreRising 0 l.places.items l.place-counter;
  few : length l.places.items ≤ 400;
}
