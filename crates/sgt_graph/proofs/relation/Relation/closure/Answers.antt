use Rattle.std.proofs.Common.{List, ◌≡◌, ◌∙◌, ℕ, true, sym, subst, inl, inr, ap, arith, length}
use Rattle.std.proofs.lemmas.Bool.{or_cases, or_left, or_right, and_parts, and_from, both_ways}
use Rattle.sgt_cycle.specs.Indices.{is_set, is_bit}
use Rattle.sgt_graph.proofs.RowSteps.{none_in, closed_next, closed_all}
use Rattle.sgt_graph.proofs.relation.Relation.closure.Goals as goal
use Rattle.sgt_graph.proofs.relation.Relation.closure.Goals.{then-more-ne0, else-more-ne0}

pub loop-index-preserved : goal.loop-index-preserved
loop-index-preserved c =
    let k : ℕ = c.loop-index.index in
    let old : List ℕ = c.loop-index.reached in
    elim c.if-more-ne0.branch [
      | then-more-ne0 w ↦
          let new : List ℕ = w.add.new.self in
          rw w.reached-is (closed_next c.args.self.now k old new c.loop-index.invariant (λ i j. (
            (λ h. elim (or_cases (is_bit old i j) _ (sym (w.add.ensures i j) ∙ h)) [
              | inl o ↦ inl o
              | inr n ↦ let both = and_parts (is_set w.column-from.result i) _ n in
                  inr (sym (w.column-from.ensures i) ∙ both.0, subst (λ x. is_set x j ≡ true) c.row-more.ensures both.1)
            ]),
            (λ h. elim h [
              | inl o ↦ w.add.ensures i j ∙ or_left (is_bit old i j) _ o
              | inr n ↦ w.add.ensures i j ∙ or_right (is_bit old i j) _
                  (and_from _ _ (w.column-from.ensures i ∙ n.0) (subst (λ x. is_set x j ≡ true) (sym c.row-more.ensures) n.1))
            ]),
          )))
      | else-more-ne0 w ↦
          let empty : (j : ℕ) → is_bit old k j ≡ true → ⊥ = λ j set.
          both_ways _ (none_in j) (subst (λ x. is_set x j ≡ true) (sym c.row-more.ensures ∙ w.if-more-ne0.false) set) in
          rw w.reached-is (closed_next c.args.self.now k old old c.loop-index.invariant (λ i j. (
            inl,
            (λ h. elim h [ inl o ↦ o | inr n ↦ absurd (empty j n.1) ]),
          )))
    ]

pub returns : goal.returns
returns c =
    let size : length c.args.self.now ≡ 32 = sym (ap length c.self.view_is) ∙ c.self.invariant.size in
    closed_all c.args.self.now c.loop-index.index c.loop-index.reached (omega arith) size c.loop-index.invariant
