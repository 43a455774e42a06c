use Rattle.std.proofs.Common.{◌≡◌, ◌++◌, take}
use Rattle.std.specs.List.{flat_map}
use Rattle.sgt_check.specs.GraphText.{node_text}
use Rattle.sgt_check.proofs.graph_text.append_nodes.Given as goal

abbrev pub invariant-loop-operation : goal.invariant-loop-operation
invariant-loop-operation l = l.text.items ≡ l.fn.text.items ++ flat_map node_text (take l.operation-index l.operations)
