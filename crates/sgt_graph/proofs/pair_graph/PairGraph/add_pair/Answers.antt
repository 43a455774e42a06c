use Rattle.std.proofs.Common.{◌≡◌, ◌≤◌, ◌++◌, ◌∷◌, [], ℕ, List, true, false, length, length-append, sym, subst, arith}
use Rattle.sgt_model.specs.Paths.{Reaches}
use Rattle.sgt_cycle.specs.Links.{is_link}
use Rattle.sgt_cycle.specs.Path.{Holds}
use Rattle.sgt_graph.specs.PairGraphs.{is_node, IsPairGraph}
use Rattle.sgt_graph.proofs.Lists.{pair_again}
use Rattle.sgt_graph.proofs.Kept.{pairs_few, kept_pair}
use Rattle.sgt_graph.proofs.pair_graph.PairGraph.add_pair.Goals as goal

-- what is asked of the value, of the fields that it stands for
with_pair : (nodes : List ℕ) (pairs : List (ℕ × ℕ)) (v : List ℕ × List (ℕ × ℕ)) (u t : ℕ) → (nodes, pairs) ≡ v → IsPairGraph nodes pairs
    → is_node v.0 u ≡ true → is_node v.0 t ≡ true
    → (Reaches (Holds (is_link v.1)) t u → ⊥) → is_link pairs u t ≡ false → IsPairGraph nodes (pairs ++ (u, t) ∷ [])
with_pair nodes pairs v u t is g from to free new = kept_pair nodes pairs g u t
    (subst (λ (w : List ℕ × List (ℕ × ℕ)). is_node w.0 u ≡ true) (sym is) from)
    (subst (λ (w : List ℕ × List (ℕ × ℕ)). is_node w.0 t ≡ true) (sym is) to)
    (subst (λ (w : List ℕ × List (ℕ × ℕ)). Reaches (Holds (is_link w.1)) t u → ⊥) (sym is) free) new

pub push-requires : goal.push-requires
push-requires c =
    let pairs : List (ℕ × ℕ) = c.self.inside.pairs in
    let new : is_link pairs c.args.u c.args.t ≡ false = rw c.as_slice.ensures at (sym c.if-not-contains.ensures.value) in
    let more : length (pairs ++ (c.args.u, c.args.t) ∷ []) ≤ 496 = pairs_few c.self.inside.nodes (pairs ++ (c.args.u, c.args.t) ∷ [])
    (with_pair c.self.inside.nodes pairs c.args.self.now c.args.u c.args.t c.self.view_is c.self.invariant c.requires.from c.requires.to
    c.requires.free new) in
    (omega arith, omega (arith, length-append pairs ((c.args.u, c.args.t) ∷ [])))

pub invariant_of-self : goal.invariant_of-self
invariant_of-self c =
    let new : is_link c.self.inside.pairs c.args.u c.args.t ≡ false = rw c.as_slice.ensures at (sym c.if-not-contains.ensures.value) in
    rw c.push.ensures (with_pair c.self.inside.nodes c.self.inside.pairs c.args.self.now c.args.u c.args.t c.self.view_is c.self.invariant
    c.requires.from c.requires.to c.requires.free new)

pub returns-else-not-contains-clause-pairs : goal.returns-else-not-contains-clause-pairs
returns-else-not-contains-clause-pairs c =
    let there : is_link c.self.inside.pairs c.args.u c.args.t ≡ true = rw c.as_slice.ensures at (sym c.if-not-contains.ensures.value) in
    pair_again c.args.self.now.1 c.args.u c.args.t (subst (λ (v : List ℕ × List (ℕ × ℕ)). is_link v.1 c.args.u c.args.t ≡ true)
    c.self.view_is there)
