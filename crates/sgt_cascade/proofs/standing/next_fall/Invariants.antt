use Rattle.std.proofs.Common.{◌≡◌, ℕ, true, take}
use Rattle.sgt_cascade.specs.Standing.{stands, has_read}
use Rattle.sgt_cascade.proofs.standing.next_fall.Given as goal

abbrev pub invariant-loop-pair : goal.invariant-loop-pair
invariant-loop-pair l = (u v : ℕ) → has_read (take l.pair-index l.read_from) u v ≡ true → stands l.standing v ≡ true
    → stands l.standing u ≡ true
