use Rattle.std.proofs.Common.{◌≡◌, ℕ, List, true, subst, refl, nat_eq}
use Rattle.std.specs.Prelude.{◌&&◌, not}
use Rattle.sgt_graph.specs.BitGraphs.{is_at, is_placed, is_pair, IsBitGraph}
use Rattle.sgt_graph.proofs.BitSteps.{removed_nodes, removed_pairs, absent_nodes, absent_pairs}
use Rattle.sgt_graph.proofs.bit_graph.BitGraphGraph.remove.Goals as goal
use Rattle.sgt_graph.proofs.bit_graph.BitGraphGraph.remove.Goals.{After-free}

-- the value before is a graph
graph : (c : After-free) → IsBitGraph c.args.self.now.0 c.args.self.now.1 c.args.self.now.2 c.args.self.now.3
graph c = subst (λ (v : ℕ × List ℕ × List ℕ × List ℕ). IsBitGraph v.0 v.1 v.2 v.3) c.self.view_is c.self.invariant

-- t stood at the index
here : (c : After-free) → is_at c.args.self.now.0 c.args.self.now.1 c.args.t c.in-Some.index ≡ true
here c = subst (λ (v : ℕ × List ℕ × List ℕ × List ℕ). is_at v.0 v.1 c.args.t c.in-Some.index ≡ true) c.self.view_is
    c.in-Some.ensures.some.1

-- and the value after it is a graph of the same transactions
after : (c : After-free) → IsBitGraph c.free.new.self.0 c.args.self.now.1 c.free.new.self.2 c.free.new.self.3
after c = subst (λ x. IsBitGraph c.free.new.self.0 x c.free.new.self.2 c.free.new.self.3) c.free.ensures.tids c.free.ensures.graph

pub returns-in-Some-clause-nodes : goal.returns-in-Some-clause-nodes
returns-in-Some-clause-nodes c u =
    let v : ℕ × List ℕ × List ℕ × List ℕ = c.args.self.now in
    removed_nodes v.0 v.1 v.2 v.3 (graph c) c.in-Some.index c.free.new.self.0 c.free.new.self.2 c.free.ensures.taken c.free.ensures.pairs
    c.free.new.self.3 (after c) c.args.t (here c) c.free.new.self.1 c.free.ensures.tids u

pub returns-in-Some-clause-pairs : goal.returns-in-Some-clause-pairs
returns-in-Some-clause-pairs c u w =
    let v : ℕ × List ℕ × List ℕ × List ℕ = c.args.self.now in
    removed_pairs v.0 v.1 v.2 v.3 (graph c) c.in-Some.index c.free.new.self.0 c.free.new.self.2 c.free.ensures.taken c.free.ensures.pairs
    c.free.new.self.3 (after c) c.args.t (here c) c.free.new.self.1 c.free.ensures.tids u w

pub returns-in_default-clause-nodes : goal.returns-in_default-clause-nodes
returns-in_default-clause-nodes c u =
    subst (λ (v : ℕ × List ℕ × List ℕ × List ℕ). is_placed v.0 v.1 u ≡ (is_placed v.0 v.1 u && not (nat_eq c.args.t u))) c.self.view_is
    (absent_nodes c.self.inside.taken c.self.inside.tids c.self.inside.pairs c.self.inside.reached c.self.invariant c.args.t
    (c.in_default.ensures.none refl) u)

pub returns-in_default-clause-pairs : goal.returns-in_default-clause-pairs
returns-in_default-clause-pairs c u w =
    subst (λ (v : ℕ × List ℕ × List ℕ × List ℕ). is_pair v.0 v.1 v.2 u
    w ≡ (is_pair v.0 v.1 v.2 u w && (not (nat_eq c.args.t u) && not (nat_eq c.args.t w)))) c.self.view_is
    (absent_pairs c.self.inside.taken c.self.inside.tids c.self.inside.pairs c.self.inside.reached c.self.invariant c.args.t
    (c.in_default.ensures.none refl) u w)
