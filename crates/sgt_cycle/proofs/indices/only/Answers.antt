use Rattle.std.proofs.Common.{arith}
use Rattle.sgt_cycle.proofs.Bits.{only_set}
use Rattle.sgt_cycle.proofs.indices.only.Goals as goal

pub returns : goal.returns
returns c i = only_set c.args.index i (omega arith)
