use Rattle.std.proofs.Common.{◌≡◌, ℕ, List, false, sym, subst, arith}
use Rattle.sgt_model.specs.Paths.{AtMost}
use Rattle.sgt_graph.specs.PairGraphs.{is_node}
use Rattle.sgt_graph.proofs.Kept.{nodes_fit, kept_node}
use Rattle.sgt_graph.proofs.pair_graph.PairGraphGraph.add.Goals as goal

pub push-requires : goal.push-requires
push-requires c =
    let capacity : AtMost 31 (is_node c.self.inside.nodes) =
    subst (λ (v : List ℕ × List (ℕ × ℕ)). AtMost 31 (is_node v.0)) (sym c.self.view_is) c.requires.capacity in
    omega (arith, nodes_fit c.self.inside.nodes c.self.inside.pairs c.self.invariant 31 capacity)

pub invariant_of-self : goal.invariant_of-self
invariant_of-self c =
    let capacity : AtMost 31 (is_node c.self.inside.nodes) =
    subst (λ (v : List ℕ × List (ℕ × ℕ)). AtMost 31 (is_node v.0)) (sym c.self.view_is) c.requires.capacity in
    let new : is_node c.self.inside.nodes c.args.t ≡ false =
    subst (λ (v : List ℕ × List (ℕ × ℕ)). is_node v.0 c.args.t ≡ false) (sym c.self.view_is) c.requires.new in
    rw c.push.ensures (kept_node c.self.inside.nodes c.self.inside.pairs c.self.invariant c.args.t new
    (omega (arith, nodes_fit c.self.inside.nodes c.self.inside.pairs c.self.invariant 31 capacity)))
