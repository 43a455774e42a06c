use Rattle.std.proofs.Common.{ℕ, List, subst}
use Rattle.sgt_graph.specs.BitGraphs.{is_placed, is_pair}
use Rattle.sgt_graph.specs.Graphs.{OfNodes, NoCycle}
use Rattle.sgt_graph.proofs.Placed.{bit_of_nodes, bit_acyclic}
use Rattle.sgt_graph.proofs.bit_graph.BitGraphGraph.has_no_cycle.Goals as goal

pub returns-clause-of_nodes : goal.returns-clause-of_nodes
returns-clause-of_nodes c =
    subst (λ (v : ℕ × List ℕ × List ℕ × List ℕ). OfNodes (is_placed v.0 v.1) (is_pair v.0 v.1 v.2)) c.self.view_is
    (bit_of_nodes c.self.inside.taken c.self.inside.tids c.self.inside.pairs c.self.inside.reached c.self.invariant)

pub returns-clause-acyclic : goal.returns-clause-acyclic
returns-clause-acyclic c =
    subst (λ (v : ℕ × List ℕ × List ℕ × List ℕ). NoCycle (is_pair v.0 v.1 v.2)) c.self.view_is
    (bit_acyclic c.self.inside.taken c.self.inside.tids c.self.inside.pairs c.self.inside.reached c.self.invariant)
