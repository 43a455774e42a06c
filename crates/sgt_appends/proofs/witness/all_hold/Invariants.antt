use Rattle.std.proofs.Common.{take}
use Rattle.sgt_appends.specs.Witnesses.{AreShown}
use Rattle.sgt_appends.proofs.witness.all_hold.Given as goal

abbrev pub invariant-loop-edge : goal.invariant-loop-edge
invariant-loop-edge l = AreShown l.history (take l.edge-index l.edges)
