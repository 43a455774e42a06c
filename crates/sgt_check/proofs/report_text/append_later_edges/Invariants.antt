use Rattle.std.proofs.Common.{◌≡◌, ◌++◌, take}
use Rattle.std.specs.List.{flat_map}
use Rattle.sgt_check.specs.ReportText.{later_edge_text}
use Rattle.sgt_check.proofs.report_text.append_later_edges.Given as goal

abbrev pub invariant-loop-edge : goal.invariant-loop-edge
invariant-loop-edge l = l.text.items ≡ l.fn.text.items ++ flat_map (later_edge_text l.history) (take l.edge-index l.edges)
