-- The text of a finding as a graph, in DOT.
use Rattle.std.specs.Prelude.{◌++◌, ℕ, List, [], ◌∷◌, codes}
use Rattle.std.specs.List.{flat_map}
use Rattle.sgt_levels.specs.declared.tie.Passage.{Passage}
use Rattle.sgt_format.specs.Templates.{filled}
use Rattle.sgt_clients.specs.declared.clients.Clients.{Clients}
use Rattle.sgt_clients.specs.declared.finding.Finding.{Finding}
use Rattle.sgt_clients.specs.declared.finding.Finding.TheVariants as finding
use Rattle.sgt_clients.specs.ReportText.{transaction_text, placed, ground_text, fault_text}

-- a transaction of a serial order
abbrev pub node_text : ℕ → List ℕ
node_text t = filled (codes "  #;\n") (transaction_text t ∷ [])

-- the transaction from which a step leads
abbrev pub source_text : Clients → Passage → List ℕ
source_text c s = filled (codes "  # [label=\"#\"];\n") (transaction_text s.from ∷ placed c s.from ∷ [])

-- a step, in red, with its reason
abbrev pub arrow_text : Clients → Passage → List ℕ
arrow_text c s =
    filled (codes "  # -> # [color=red, label=\"#\"];\n") (transaction_text s.from ∷ transaction_text s.to ∷ ground_text c s.from s.to s.why ∷ [])

-- the transactions of the serial order, or those of the cycle and its steps, or the reader in red with what is wrong
abbrev pub graph_lines : Clients → Finding → List ℕ
graph_lines c (finding.Serial order) = flat_map node_text order.items
graph_lines c (finding.Cycle steps name) = flat_map (source_text c) steps.items ++ flat_map (arrow_text c) steps.items
graph_lines c (finding.Fault reader read fault name) =
    filled (codes "  # [color=red, label=\"#\"];\n") (transaction_text reader ∷ fault_text c reader read fault ∷ [])

-- the graph
abbrev pub graph_text : Clients → Finding → List ℕ
graph_text c f = codes "digraph serialization {\n" ++ graph_lines c f ++ codes "}\n"
