use Rattle.std.proofs.Common.{◌≡◌, ℕ, List, true, sym, subst}
use Rattle.sgt_graph.specs.PairGraphs.{is_node}
use Rattle.sgt_graph.proofs.Kept.{numbers_few}
use Rattle.sgt_graph.proofs.pair_graph.PairGraphGraph.plan.Goals as goal

pub walk-requires : goal.walk-requires
walk-requires c =
    let node : is_node c.self.inside.nodes c.args.t ≡ true =
    subst (λ (v : List ℕ × List (ℕ × ℕ)). is_node v.0 c.args.t ≡ true) (sym c.self.view_is) c.requires.node in
    record { few = rw c.as_slice.ensures (numbers_few c.self.inside.nodes c.self.inside.pairs c.self.invariant c.args.t node) }
