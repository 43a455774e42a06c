use Rattle.std.proofs.Common.{ℕ, List, subst}
use Rattle.sgt_cycle.specs.Links.{is_link}
use Rattle.sgt_graph.specs.Graphs.{OfNodes, NoCycle}
use Rattle.sgt_graph.specs.PairGraphs.{is_node}
use Rattle.sgt_graph.proofs.pair_graph.PairGraphGraph.has_no_cycle.Goals as goal

pub returns-clause-of_nodes : goal.returns-clause-of_nodes
returns-clause-of_nodes c =
    subst (λ (v : List ℕ × List (ℕ × ℕ)). OfNodes (is_node v.0) (is_link v.1)) c.self.view_is c.self.invariant.of_nodes

pub returns-clause-acyclic : goal.returns-clause-acyclic
returns-clause-acyclic c = subst (λ (v : List ℕ × List (ℕ × ℕ)). NoCycle (is_link v.1)) c.self.view_is c.self.invariant.acyclic
