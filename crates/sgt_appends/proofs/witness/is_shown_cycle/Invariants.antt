use Rattle.std.proofs.Common.{take}
use Rattle.sgt_appends.specs.Witnesses.{EdgesLead, AreShown}
use Rattle.sgt_appends.proofs.witness.is_shown_cycle.Given as goal

abbrev pub invariant-loop-edge : goal.invariant-loop-edge
invariant-loop-edge l = record {
  leads : EdgesLead l.start (take l.edge-index l.edges) l.at;
  shown : AreShown l.history (take l.edge-index l.edges);
}
