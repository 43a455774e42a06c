use Rattle.sgt_cycle.proofs.Bits.{joined_set}
use Rattle.sgt_cycle.proofs.indices.joined.Goals as goal

pub returns : goal.returns
returns c i = joined_set c.args.set c.args.other i
