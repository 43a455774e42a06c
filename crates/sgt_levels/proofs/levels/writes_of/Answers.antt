use Rattle.sgt_levels.proofs.WriteOrders.{committed_writes}
use Rattle.sgt_levels.proofs.levels.writes_of.Goals as goal

pub returns-then-is_run : goal.returns-then-is_run
returns-then-is_run c =
    let it = c.is_run.ensures c.args.history.now c.if-is_run.true c.requires.committed in
    (it.0, committed_writes c.args.history.now it.0 it.1)
