use Rattle.std.proofs.Common.{take}
use Rattle.sgt_appends.specs.Tables.{AreNotAborted}
use Rattle.sgt_appends.proofs.solver.not_aborted.Given as goal

abbrev pub invariant-loop-node : goal.invariant-loop-node
invariant-loop-node l = AreNotAborted l.history (take l.node-index l.nodes) l.order.items
