use Rattle.std.proofs.Common.{◌≡◌, ◌∙◌, ℕ, List, true, ap, subst, refl, nat_eq}
use Rattle.std.specs.Prelude.{◌&&◌, not}
use Rattle.std.proofs.lemmas.Bool.{both_ways}
use Rattle.sgt_cycle.specs.Indices.{is_set, is_bit}
use Rattle.sgt_graph.proofs.RowSteps.{none_in}
use Rattle.sgt_graph.proofs.Placed.{leads_reached}
use Rattle.sgt_graph.proofs.BitSteps.{alone_left, alone_freed, freed, first_freed}
use Rattle.sgt_graph.proofs.bit_graph.BitGraph.free.Goals as goal

pub invariant_of-self : goal.invariant_of-self
invariant_of-self c =
    alone_freed c.self.inside.taken c.self.inside.tids c.self.inside.pairs c.self.inside.reached c.self.invariant c.args.index
    (λ i. ap (λ (v : ℕ × List ℕ × List ℕ × List ℕ). is_set v.0 i) c.self.view_is ∙ c.if-is_alone.ensures refl i)

pub returns-then-is_alone-clause-taken : goal.returns-then-is_alone-clause-taken
returns-then-is_alone-clause-taken c = alone_left c.args.self.now.0 c.args.index (c.if-is_alone.ensures refl)

pub returns-then-is_alone-clause-graph : goal.returns-then-is_alone-clause-graph
returns-then-is_alone-clause-graph c = invariant_of-self c

pub invariant_of-self-then-is_first : goal.invariant_of-self-then-is_first
invariant_of-self-then-is_first c =
    let p : ℕ = c.args.index in
    let pairs : List ℕ = c.self.inside.pairs in
    let left : (i : ℕ) → is_set c.minus-self-inside.result i ≡ (is_set c.self.inside.taken i && not (nat_eq i p)) =
    λ i. c.minus-self-inside.ensures.indices i ∙ ap (λ x. is_set c.self.inside.taken i && not x) (c.only-alone.ensures i) in
    let none : (i : ℕ) → is_bit pairs i p ≡ true → ⊥ = λ i step. both_ways _ (none_in i)
    (subst (λ x. is_set x i ≡ true) c.if-is_first.true (c.column-is_first.ensures i ∙ step)) in
    freed c.self.inside.taken c.self.inside.tids pairs c.self.inside.reached c.self.invariant p c.minus-self-inside.result
    c.take_out.new.self left c.take_out.ensures
    c.take_out-then-is_first.new.self
    (first_freed c.self.inside.taken c.self.inside.tids pairs c.self.inside.reached c.self.invariant p c.minus-self-inside.result
    c.take_out.new.self left c.take_out.ensures c.take_out-then-is_first.new.self none c.take_out-then-is_first.ensures)
    (leads_reached c.self.inside.taken c.self.inside.tids pairs c.self.inside.reached c.self.invariant)

pub invariant_of-self-else-is_first : goal.invariant_of-self-else-is_first
invariant_of-self-else-is_first c =
    let left : (i : ℕ) → is_set c.minus-self-inside.result i ≡ (is_set c.self.inside.taken i && not (nat_eq i c.args.index)) =
    λ i. c.minus-self-inside.ensures.indices i ∙ ap (λ x. is_set c.self.inside.taken i && not x) (c.only-alone.ensures i) in
    freed c.self.inside.taken c.self.inside.tids c.self.inside.pairs c.self.inside.reached c.self.invariant c.args.index
    c.minus-self-inside.result c.take_out.new.self left c.take_out.ensures
    c.closure-self-inside.result c.closure-self-inside.ensures
    (leads_reached c.self.inside.taken c.self.inside.tids c.self.inside.pairs c.self.inside.reached c.self.invariant)

pub returns-then-is_first-clause-graph : goal.returns-then-is_first-clause-graph
returns-then-is_first-clause-graph c = invariant_of-self-then-is_first c

pub returns-else-is_first-clause-graph : goal.returns-else-is_first-clause-graph
returns-else-is_first-clause-graph c = invariant_of-self-else-is_first c
