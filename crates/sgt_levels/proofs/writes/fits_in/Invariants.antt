use Rattle.std.proofs.Common.{◌<◌, ℕ}
use Rattle.sgt_levels.specs.Replays.{values_in}
use Rattle.sgt_levels.specs.WriteOrders.{FitsAt}
use Rattle.sgt_levels.proofs.writes.fits_in.Given as goal

abbrev pub invariant-loop-position : goal.invariant-loop-position
invariant-loop-position l = (p : ℕ) → p < l.position → FitsAt l.history (values_in l.lists) l.number p
