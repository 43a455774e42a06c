-- The text of a serialization graph, in DOT.
use Rattle.std.specs.Prelude.{ℕ, Bool, true, false, ◌==◌, ◌&&◌, ◌||◌, if◌then◌else◌, List, [], ◌∷◌, ◌++◌, codes}
use Rattle.std.specs.List.{flat_map}
use Rattle.std.specs.Fmt.{decimal}
use Rattle.sgt_classes.specs.declared.operation.Operation.{Operation}
use Rattle.sgt_classes.specs.declared.graph.Edge.{Edge}
use Rattle.sgt_classes.specs.declared.serial.Serializability.{Serializability}
use Rattle.sgt_classes.specs.declared.serial.Serializability.TheVariants.{Serial, Cycle}
use Rattle.sgt_format.specs.Templates.{filled}
use Rattle.sgt_notation.specs.declared.history.History.{History}
use Rattle.sgt_check.specs.Reports.{commits}
use Rattle.sgt_check.specs.ReportText.{placed}

-- a line for each commit: the transaction
abbrev pub node_text : Operation → List ℕ
node_text op = if commits op.action then codes "  " ++ decimal op.transaction ++ codes ";\n" else []

-- whether one of the edges leads from t to u
abbrev pub leads : List Edge → ℕ → ℕ → Bool
leads [] t u = false
leads (e ∷ es) t u = (e.from == t && e.to == u) || leads es t u

-- the edges of the cycle, if one is shown
abbrev pub cycle_of : Serializability → List Edge
cycle_of (Serial order) = []
cycle_of (Cycle edges) = edges.items

-- the end of an edge's line, with or without its colour
abbrev pub colour_text : Bool → List ℕ
colour_text true = codes "\", color=red];\n"
colour_text false = codes "\"];\n"

-- the line of an edge: its two transactions, and its two operations with their positions; red if the cycle has an
-- edge between the two
abbrev pub arrow_text : History → List Edge → Edge → List ℕ
arrow_text h cycle e =
    filled (codes "  # -> # [label=\"# #") (decimal e.from ∷ decimal e.to ∷ placed h e.earlier ∷ placed h e.later ∷ [])
    ++ colour_text (leads cycle e.from e.to)

-- the committed transactions in commit order, and then the edges
abbrev pub graph_text : History → List Edge → Serializability → List ℕ
graph_text h conflicts shown = codes "digraph serialization {\n" ++ flat_map node_text h.operations.items
    ++ flat_map (arrow_text h (cycle_of shown)) conflicts ++ codes "}\n"
