use Rattle.std.proofs.Common.{take}
use Rattle.sgt_graph.proofs.AtIndices.{AreIndices}
use Rattle.sgt_graph.proofs.tids.indices_of.Given as goal

abbrev pub invariant-loop-t : goal.invariant-loop-t
invariant-loop-t l = AreIndices l.taken l.tids (take l.t-index l.among) l.found
