use Rattle.std.proofs.Common.{arith}
use Rattle.sgt_cycle.proofs.Bits.{has_set}
use Rattle.sgt_cycle.proofs.indices.has.Goals as goal

pub returns : goal.returns
returns c = has_set c.args.set c.args.index (omega arith)
