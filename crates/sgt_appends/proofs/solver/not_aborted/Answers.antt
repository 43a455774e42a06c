use Rattle.sgt_appends.proofs.Chosen.{chosen_next}
use Rattle.sgt_appends.proofs.solver.not_aborted.Goals as goal

pub loop-node-preserved : goal.loop-node-preserved
loop-node-preserved c =
    chosen_next c.args.history.now c.args.nodes.now c.loop-node.order.items c.add_node.new.order.items c.loop-node.node-index
    c.loop-node-test.true c.loop-node.invariant c.in_ok-add_node.ensures
