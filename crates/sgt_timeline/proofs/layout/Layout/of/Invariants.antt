use Rattle.std.proofs.Common.{◌≡◌, take}
use Rattle.sgt_timeline.specs.Drawn.{marked}
use Rattle.sgt_timeline.proofs.layout.Layout.of.Given as goal

abbrev pub invariant-loop-place : goal.invariant-loop-place
invariant-loop-place l = marked l.layout.marks.items ≡ take l.place-index l.places
