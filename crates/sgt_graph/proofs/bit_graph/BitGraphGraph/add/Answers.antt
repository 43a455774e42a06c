use Rattle.std.proofs.Common.{◌≡◌, ◌∙◌, ℕ, Bool, List, true, false, ap, sym, subst, refl, nat_eq, slice_set, true≢false}
use Rattle.std.specs.Prelude.{◌||◌, not}
use Rattle.sgt_cycle.specs.Indices.{is_set}
use Rattle.sgt_graph.specs.BitGraphs.{is_placed, is_pair, IsBitGraph}
use Rattle.sgt_model.specs.Paths.{AtMost}
use Rattle.sgt_graph.proofs.BitSteps.{grown, grown_nodes, grown_pairs, no_capacity}
use Rattle.sgt_graph.proofs.bit_graph.BitGraphGraph.add.Goals as goal
use Rattle.sgt_graph.proofs.bit_graph.BitGraphGraph.add.Goals.{After-joined-self-inside}

taken_there : (b : Bool) → not b ≡ false → b ≡ true
taken_there true e = refl
taken_there false e = absurd (true≢false e)

free_there : (b : Bool) → not b ≡ true → b ≡ false
free_there false e = refl
free_there true e = absurd (true≢false (sym e))

pub unreachable-requires : goal.unreachable-requires
unreachable-requires c =
    no_capacity c.self.inside.taken c.self.inside.tids c.self.inside.pairs c.self.inside.reached c.self.invariant
    (subst (λ (v : ℕ × List ℕ × List ℕ × List ℕ). AtMost 31 (is_placed v.0 v.1)) (sym c.self.view_is) c.requires.capacity)
    (λ i low. taken_there (is_set c.self.inside.taken i) (sym (c.complement.ensures i low) ∙ c.in_default.ensures.none refl i))

-- the index is free
vacant : (c : After-joined-self-inside) → is_set c.self.inside.taken c.in-Some.index ≡ false
vacant c = free_there (is_set c.self.inside.taken c.in-Some.index)
    (sym (c.complement.ensures c.in-Some.index c.in-Some.ensures.some.0) ∙ c.in-Some.ensures.some.1)

-- t stands at none
new : (c : After-joined-self-inside) → is_placed c.self.inside.taken c.self.inside.tids c.args.t ≡ false
new c = subst (λ (v : ℕ × List ℕ × List ℕ × List ℕ). is_placed v.0 v.1 c.args.t ≡ false) (sym c.self.view_is) c.requires.new

-- and the index is the only one that is taken anew
more : (c : After-joined-self-inside) (i : ℕ) → is_set c.joined-self-inside.result i ≡ (is_set c.self.inside.taken i || nat_eq i c.in-Some.index)
more c i = c.joined-self-inside.ensures i ∙ ap (λ x. is_set c.self.inside.taken i || x) (c.only.ensures i)

pub invariant_of-self : goal.invariant_of-self
invariant_of-self c =
    let p : ℕ = c.in-Some.index in
    let at = (goal.at.invariant_of-self c).After-joined-self-inside in
    subst (λ (q : ℕ). IsBitGraph c.joined-self-inside.result (slice_set c.self.inside.tids q c.args.t) c.self.inside.pairs
    c.self.inside.reached) (sym c.from.ensures) (grown c.self.inside.taken c.self.inside.tids c.self.inside.pairs c.self.inside.reached
    c.self.invariant c.args.t p c.joined-self-inside.result c.in-Some.ensures.some.0 (vacant at) (new at) (more at))

pub returns-clause-nodes : goal.returns-clause-nodes
returns-clause-nodes c u =
    let p : ℕ = c.in-Some.index in
    let at = (goal.at.returns-clause-nodes c).After-joined-self-inside in
    subst (λ (q : ℕ). is_placed c.joined-self-inside.result (slice_set c.self.inside.tids q c.args.t)
    u ≡ (is_placed c.args.self.now.0 c.args.self.now.1 u || nat_eq u c.args.t)) (sym c.from.ensures)
    (grown_nodes c.self.inside.taken c.self.inside.tids c.self.inside.pairs c.self.inside.reached c.self.invariant c.args.t p
    c.joined-self-inside.result c.in-Some.ensures.some.0 (vacant at) (new at) (more at) u ∙ ap
    (λ (v : ℕ × List ℕ × List ℕ × List ℕ). is_placed v.0 v.1 u || nat_eq u c.args.t) c.self.view_is)

pub returns-clause-pairs : goal.returns-clause-pairs
returns-clause-pairs c u v =
    let p : ℕ = c.in-Some.index in
    let at = (goal.at.returns-clause-pairs c).After-joined-self-inside in
    subst (λ (q : ℕ). is_pair c.joined-self-inside.result (slice_set c.self.inside.tids q c.args.t) c.self.inside.pairs u v ≡ is_pair
    c.args.self.now.0 c.args.self.now.1 c.args.self.now.2 u v) (sym c.from.ensures)
    (grown_pairs c.self.inside.taken c.self.inside.tids c.self.inside.pairs c.self.inside.reached c.self.invariant c.args.t p
    c.joined-self-inside.result c.in-Some.ensures.some.0 (vacant at) (new at) (more at) u v
    ∙ ap (λ (w : ℕ × List ℕ × List ℕ × List ℕ). is_pair w.0 w.1 w.2 u v) c.self.view_is)
