use Rattle.std.proofs.Common.{◌≡◌, ◌<◌, ℕ, false}
use Rattle.sgt_access.specs.Places.{is_at}
use Rattle.sgt_access.proofs.places.search.Given as goal

abbrev pub invariant-loop-place : goal.invariant-loop-place
invariant-loop-place l = (i : ℕ) → i < l.place → is_at l.places l.tids l.t i ≡ false
