use Rattle.std.proofs.Common.{◌≡◌, ◌++◌, take}
use Rattle.std.specs.List.{flat_map}
use Rattle.sgt_clients.specs.GraphText.{node_text}
use Rattle.sgt_clients.proofs.graph_text.append_nodes.Given as goal

abbrev pub invariant-loop-transaction : goal.invariant-loop-transaction
invariant-loop-transaction l = l.text.items ≡ l.fn.text.items ++ flat_map node_text (take l.transaction-index l.order)
