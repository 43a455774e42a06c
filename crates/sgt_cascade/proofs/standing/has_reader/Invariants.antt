use Rattle.std.proofs.Common.{◌≡◌, ℕ, false, take}
use Rattle.sgt_cascade.specs.Standing.{has_read}
use Rattle.sgt_cascade.proofs.standing.has_reader.Given as goal

abbrev pub invariant-loop-pair : goal.invariant-loop-pair
invariant-loop-pair l = (v : ℕ) → has_read (take l.pair-index l.read_from) l.t v ≡ false
