use Rattle.std.proofs.lemmas.Nat.{and_le_l}
use Rattle.sgt_cycle.proofs.Bits.{minus_set}
use Rattle.sgt_cycle.proofs.indices.minus.Goals as goal

pub returns-clause-indices : goal.returns-clause-indices
returns-clause-indices c i = minus_set c.args.set c.args.other i c.ranges.set.fits c.ranges.other.fits

pub returns-clause-at_most : goal.returns-clause-at_most
returns-clause-at_most c = and_le_l c.args.set _
