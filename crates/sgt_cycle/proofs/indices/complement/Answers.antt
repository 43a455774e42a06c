use Rattle.sgt_cycle.proofs.Bits.{complement_set}
use Rattle.sgt_cycle.proofs.indices.complement.Goals as goal

pub returns : goal.returns
returns c i low = complement_set c.args.set i c.ranges.set.fits low
