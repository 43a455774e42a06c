use Rattle.sgt_levels.proofs.WriteOrders.{write_cycle}
use Rattle.sgt_levels.proofs.writes.rules_out_uncommitted.Goals as goal

pub returns : goal.returns
returns c = λ yes. let it = c.is_cycle.ensures yes in write_cycle c.args.history.now it.0 it.1 c.requires it.2
