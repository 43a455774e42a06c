use Rattle.std.proofs.Common.{◌++◌, ◌∙◌, ap}
use Rattle.std.specs.Prelude.{codes}
use Rattle.std.specs.List.{flat_map}
use Rattle.sgt_check.specs.GraphText.{node_text, cycle_of, arrow_text}
use Rattle.sgt_check.proofs.Pieces.{grow}
use Rattle.sgt_check.proofs.graph_text.append_graph.Goals as goal

pub returns : goal.returns
returns c =
    let start = c.args.text.now.items in
    let h = c.args.history.now in
    let cycle = cycle_of c.args.shown.now in
    grow start c.append_arrows.new.text.items c.extend_from_slice-2.new.self.items _ (codes "}\n")
    (grow start c.append_nodes.new.text.items c.append_arrows.new.text.items _ (flat_map (arrow_text h cycle) c.args.conflicts.now)
    (grow start c.extend_from_slice.new.self.items c.append_nodes.new.text.items (codes "digraph serialization {\n")
    (flat_map node_text h.operations.items)
    c.in_ok-extend_from_slice.ensures.items
    (c.in_ok-append_nodes.ensures ∙ ap (λ l. c.extend_from_slice.new.self.items ++ flat_map node_text l) c.as_slice.ensures.value))
    (c.in_ok-append_arrows.ensures cycle c.in_ok-red.ensures))
    c.in_ok-extend_from_slice-2.ensures.items
