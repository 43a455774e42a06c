use Rattle.sgt_graph.proofs.RowSteps.{united_none}
use Rattle.sgt_graph.proofs.rows.union.Goals as goal

pub loop-index-init : goal.loop-index-init
loop-index-init c = united_none c.args.rows.now c.args.of
