use Rattle.sgt_cycle.proofs.Bits.{common_set}
use Rattle.sgt_cycle.proofs.indices.common.Goals as goal

pub returns : goal.returns
returns c i = common_set c.args.set c.args.other i
