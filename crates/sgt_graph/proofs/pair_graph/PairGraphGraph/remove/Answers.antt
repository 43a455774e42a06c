use Rattle.std.proofs.Common.{◌∙◌, ℕ, List, nat_eq, ap}
use Rattle.std.specs.Prelude.{not}
use Rattle.std.specs.List.{filter}
use Rattle.sgt_cycle.specs.Links.{is_link}
use Rattle.sgt_graph.specs.PairGraphs.{is_node, is_apart}
use Rattle.sgt_graph.proofs.Lists.{node_without, pair_without}
use Rattle.sgt_graph.proofs.Kept.{pairs_few, kept_without}
use Rattle.sgt_graph.proofs.pair_graph.PairGraphGraph.remove.Goals as goal

pub pairs_without-self-inside-requires : goal.pairs_without-self-inside-requires
pairs_without-self-inside-requires c =
    record { few = rw c.as_slice-2.ensures (pairs_few c.self.inside.nodes c.self.inside.pairs c.self.invariant) }

pub invariant_of-self : goal.invariant_of-self
invariant_of-self c =
    rw (c.nodes_without-self-inside.ensures, c.pairs_without-self-inside.ensures, c.as_slice.ensures, c.as_slice-2.ensures)
    (kept_without c.self.inside.nodes c.self.inside.pairs c.self.invariant c.args.t)

pub returns-clause-nodes : goal.returns-clause-nodes
returns-clause-nodes c u =
    let f = λ (x : ℕ). not (nat_eq c.args.t x) in
    ap (λ l. is_node l u) (c.nodes_without-self-inside.ensures ∙ ap (filter f) c.as_slice.ensures
    ∙ ap (λ (v : List ℕ × List (ℕ × ℕ)). filter f v.0) c.self.view_is) ∙ node_without c.args.self.now.0 c.args.t u

pub returns-clause-pairs : goal.returns-clause-pairs
returns-clause-pairs c u v =
    ap (λ l. is_link l u v) (c.pairs_without-self-inside.ensures ∙ ap (filter (is_apart c.args.t)) c.as_slice-2.ensures
    ∙ ap (λ (w : List ℕ × List (ℕ × ℕ)). filter (is_apart c.args.t) w.1) c.self.view_is) ∙ pair_without c.args.self.now.1 c.args.t u v
