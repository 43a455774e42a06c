use Rattle.std.proofs.Common.{◌≡◌, ◌++◌, ℕ, List, take}
use Rattle.std.specs.List.{flat_map}
use Rattle.std.specs.BTreeSet.{contains}
use Rattle.sgt_classes.specs.declared.graph.Edge.{Edge}
use Rattle.sgt_classes.specs.FirstAccesses.{pair_cmp}
use Rattle.sgt_check.specs.GraphText.{leads, arrow_text}
use Rattle.sgt_check.proofs.graph_text.append_arrows.Given as goal

abbrev pub invariant-loop-edge : goal.invariant-loop-edge
invariant-loop-edge l = (cycle : List Edge) → ((t u : ℕ) → contains pair_cmp l.red (t, u) ≡ leads cycle t u)
    → l.text.items ≡ l.fn.text.items ++ flat_map (arrow_text l.history cycle) (take l.edge-index l.edges)
