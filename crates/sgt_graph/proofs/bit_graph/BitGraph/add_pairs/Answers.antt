use Rattle.std.proofs.Common.{◌≡◌, ◌∙◌, ℕ, List, true, false, sym, subst, inl, inr, eqb-true, eq-eqb}
use Rattle.std.specs.Prelude.{◌⊎◌, ◌↔◌, ◌&&◌, ◌||◌, nat_eq}
use Rattle.std.proofs.lemmas.Bool.{and_parts, and_from, or_cases, or_left, or_right}
use Rattle.sgt_cycle.specs.Indices.{is_set, is_bit}
use Rattle.sgt_graph.specs.BitGraphs.{IsBitGraph}
use Rattle.sgt_graph.proofs.RowSteps.{all_there}
use Rattle.sgt_graph.proofs.BitSteps.{joined_graph}
use Rattle.sgt_graph.proofs.bit_graph.BitGraph.add_pairs.Goals as goal

pub invariant_of-self : goal.invariant_of-self
invariant_of-self c =
    let from : ℕ = c.args.from in
    let p : ℕ = c.args.index in
    let pairs : List ℕ = c.self.inside.pairs in
    let reached : List ℕ = c.self.inside.reached in
    let new_is : (i j : ℕ) → (is_bit c.add.new.self i j ≡ true) ↔ ((is_bit pairs i j ≡ true) ⊎ ((is_set from i ≡ true) × (j ≡ p))) =
    λ i j. (
      (λ h. elim (or_cases (is_bit pairs i j) _ (sym (c.add.ensures i j) ∙ h)) [
        | inl o ↦ inl o
        | inr n ↦ let both = and_parts (is_set from i) _ n in inr (both.0, eqb-true j p (sym (c.only-to.ensures j) ∙ both.1))
      ]),
      (λ h. elim h [
        | inl o ↦ c.add.ensures i j ∙ or_left (is_bit pairs i j) _ o
        | inr n ↦ c.add.ensures i j ∙ or_right (is_bit pairs i j) _ (and_from _ _ n.0 (c.only-to.ensures j ∙ eq-eqb j p n.1))
      ]),
    ) in
    let before_is : (i : ℕ) → (is_set c.joined-before.result i ≡ true)
    ↔ ((is_set from i ≡ true) ⊎ ((k : ℕ) × (is_bit reached i k ≡ true) × (is_set from k ≡ true))) = λ i. (
      (λ h. elim (or_cases (is_set from i) _ (sym (c.joined-before.ensures i) ∙ h))
          [ inl o ↦ inl o | inr n ↦ inr ((c.meeting.ensures i).0 n) ]),
      (λ h. elim h [
        | inl o ↦ c.joined-before.ensures i ∙ or_left (is_set from i) _ o
        | inr n ↦ c.joined-before.ensures i
            ∙ or_right (is_set from i) _ ((c.meeting.ensures i).1 n)
      ]),
    ) in
    let after_is : (j : ℕ) → (is_set c.joined-after.result j ≡ true) ↔ ((j ≡ p) ⊎ (is_bit reached p j ≡ true)) = λ j. (
      (λ h. elim (or_cases (is_set c.only-to.result j) _ (sym (c.joined-after.ensures j) ∙ h)) [
        | inl o ↦ inl (eqb-true j p (sym (c.only-to.ensures j) ∙ o))
        | inr n ↦ inr (subst (λ r. is_set r j ≡ true) c.row.ensures n)
      ]),
      (λ h. elim h [
        | inl o ↦ c.joined-after.ensures j ∙ or_left (is_set c.only-to.result j) _ (c.only-to.ensures j ∙ eq-eqb j p o)
        | inr n ↦ c.joined-after.ensures j ∙ or_right (is_set c.only-to.result j) _
            (subst (λ r. is_set r j ≡ true) (sym c.row.ensures) n)
      ]),
    ) in
    joined_graph c.self.inside.taken c.self.inside.tids pairs reached c.self.invariant from p c.add.new.self c.add-2.new.self
    (subst (λ (v : ℕ × List ℕ × List ℕ × List ℕ). is_set v.0 p ≡ true) (sym c.self.view_is) c.requires.taken)
    (λ i h. subst (λ (v : ℕ × List ℕ × List ℕ × List ℕ). is_set v.0 i ≡ true) (sym c.self.view_is) (c.requires.of_taken i h))
    c.requires.apart
    (λ i h. subst (λ (v : ℕ × List ℕ × List ℕ × List ℕ). is_bit v.3 p i ≡ false) (sym c.self.view_is) (c.requires.none_back i h))
    new_is
    (λ i j. (
      (λ h. elim (or_cases (is_bit reached i j) _ (sym (c.add-2.ensures i j) ∙ h)) [
        | inl o ↦ inl o
        | inr n ↦ let both = and_parts (is_set c.joined-before.result i) _ n in inr ((before_is i).0 both.0, (after_is j).0 both.1)
      ]),
      (λ h. elim h [
        | inl o ↦ c.add-2.ensures i j ∙ or_left (is_bit reached i j) _ o
        | inr n ↦ c.add-2.ensures i j ∙ or_right (is_bit reached i j) _ (and_from _ _ ((before_is i).1 n.0) ((after_is j).1 n.1))
      ]),
    ))

pub returns-clause-graph : goal.returns-clause-graph
returns-clause-graph c = invariant_of-self c

pub returns-clause-before : goal.returns-clause-before
returns-clause-before c = subst (λ (v : ℕ × List ℕ × List ℕ × List ℕ). IsBitGraph v.0 v.1 v.2 v.3) c.self.view_is c.self.invariant

-- all these edges are there
pub returns-then-minus-eq0-clause-pairs : goal.returns-then-minus-eq0-clause-pairs
returns-then-minus-eq0-clause-pairs c = subst
    (λ (v : ℕ × List ℕ × List ℕ × List ℕ). (i j : ℕ) → is_bit v.2 i j ≡ (is_bit v.2 i j || (is_set c.args.from i && nat_eq j c.args.index)))
    c.self.view_is
    (all_there c.self.inside.pairs c.args.from c.args.index c.column.result c.minus.result c.column.ensures c.minus.ensures.indices
    c.if-minus-eq0.true)
