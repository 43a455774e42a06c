use Rattle.std.proofs.Common.{◌≡◌, ◌∙◌, ℕ, List, false, ap, subst, refl, IfSome}
use Rattle.sgt_cycle.specs.Indices.{is_set}
use Rattle.sgt_graph.specs.BitGraphs.{index_of, is_pair}
use Rattle.sgt_graph.specs.Graphs.{IsLeastPred}
use Rattle.sgt_graph.proofs.BitSteps.{none_in_index, alone_none, least_pred_of, no_pred_of}
use Rattle.sgt_graph.proofs.bit_graph.BitGraphGraph.least_pred.Goals as goal

pub returns-in_err-index-clause-none : goal.returns-in_err-index-clause-none
returns-in_err-index-clause-none c none u =
    subst (λ (v : ℕ × List ℕ × List ℕ × List ℕ). is_pair v.0 v.1 v.2 u c.args.t ≡ false) c.self.view_is
    (none_in_index c.self.inside.taken c.self.inside.tids c.self.inside.pairs c.self.inside.reached c.self.invariant c.args.t
    (c.in_err-index.ensures.none refl) u)

pub returns-then-is_alone-clause-none : goal.returns-then-is_alone-clause-none
returns-then-is_alone-clause-none c none u =
    subst (λ (v : ℕ × List ℕ × List ℕ × List ℕ). is_pair v.0 v.1 v.2 u c.args.t ≡ false) c.self.view_is
    (alone_none c.self.inside.taken c.self.inside.tids c.self.inside.pairs c.self.inside.reached c.self.invariant c.in_ok-index.index
    (λ i. ap (λ (v : ℕ × List ℕ × List ℕ × List ℕ). is_set v.0 i) c.self.view_is ∙ c.if-is_alone.ensures refl i)
    (index_of c.self.inside.taken c.self.inside.tids u) (index_of c.self.inside.taken c.self.inside.tids c.args.t))

pub returns-clause-some : goal.returns-clause-some
returns-clause-some c =
    subst (λ (v : ℕ × List ℕ × List ℕ × List ℕ). IfSome c.least_at.result (IsLeastPred (is_pair v.0 v.1 v.2) c.args.t)) c.self.view_is
    (least_pred_of c.self.inside.taken c.self.inside.tids c.self.inside.pairs c.self.inside.reached c.self.invariant c.args.t
    c.in_ok-index.index c.in_ok-index.ensures.some.1 c.column.result c.column.ensures c.least_at.result
    c.least_at.ensures.some)

pub returns-clause-none : goal.returns-clause-none
returns-clause-none c none u = subst (λ (v : ℕ × List ℕ × List ℕ × List ℕ). is_pair v.0 v.1 v.2 u c.args.t ≡ false) c.self.view_is
    (no_pred_of c.self.inside.taken c.self.inside.tids c.self.inside.pairs c.self.inside.reached c.self.invariant c.args.t
    c.in_ok-index.index c.in_ok-index.ensures.some.1 c.column.result c.column.ensures
    (c.least_at.ensures.none none) u)
