use Rattle.std.proofs.Common.{◌≡◌, ◌<◌, ◌≤◌, ◌+◌, ◌∙◌, ℕ, List, false, Option, Some, None, IsNone, length, slice_index_or, take, ap, sym, subst, eqb-true, eq-eqb}
use Rattle.std.proofs.lemmas.Bool.{both_ways}
use Rattle.std.proofs.lemmas.List.{take_all}
use Rattle.sgt_cycle.specs.Links.{is_link}
use Rattle.sgt_graph.proofs.Least.{LeastAmong, least_next, least_same}
use Rattle.sgt_graph.proofs.pair_graph.PairGraphGraph.least_pred.Goals as goal
use Rattle.sgt_graph.proofs.pair_graph.PairGraphGraph.least_pred.Goals.{then-eq, else-eq}

pub loop-pair-preserved : goal.loop-pair-preserved
loop-pair-preserved c =
    let pairs : List (ℕ × ℕ) = c.args.self.now.1 in
    let same : c.as_slice-pair-items.result.now ≡ pairs = c.as_slice-pair-items.ensures
    ∙ ap (λ (v : List ℕ × List (ℕ × ℕ)). v.1) c.self.view_is in
    let p : ℕ × ℕ = c.pair-item.result in
    let below : c.loop-pair.pair-index < length pairs =
    subst (λ (l : List (ℕ × ℕ)). c.loop-pair.pair-index < length l) same c.loop-pair-test.true in
    let is : p ≡ slice_index_or pairs c.loop-pair.pair-index p =
    subst (λ (l : List (ℕ × ℕ)). p ≡ slice_index_or l c.loop-pair.pair-index p) same c.pair-item.is in
    elim c.if-eq.branch [
      | then-eq w ↦ subst (λ x. LeastAmong (take (c.loop-pair.pair-index + 1) pairs) c.args.t x)
          (sym (w.least-is ∙ ap Some w.smaller.ensures))
          (least_next pairs c.loop-pair.pair-index p c.args.t c.loop-pair.least below is c.loop-pair.invariant
          (eqb-true p.1 c.args.t (sym w.if-eq.ensures)))
      | else-eq w ↦ subst (λ x. LeastAmong (take (c.loop-pair.pair-index + 1) pairs) c.args.t x) (sym w.least-is)
          (least_same pairs c.loop-pair.pair-index p c.args.t c.loop-pair.least below is c.loop-pair.invariant
          (λ same. both_ways _ (sym w.if-eq.ensures) (eq-eqb p.1 c.args.t same)))
    ]

none_left : (pairs : List (ℕ × ℕ)) (t : ℕ) (least : Option ℕ) → LeastAmong pairs t least → IsNone least → (u : ℕ)
    → is_link pairs u t ≡ false
none_left pairs t None among none = among
none_left pairs t (Some u) among none = cc

pub returns-clause-none : goal.returns-clause-none
returns-clause-none c =
    let same : c.as_slice-pair-items.result.now ≡ c.args.self.now.1 = c.as_slice-pair-items.ensures
    ∙ ap (λ (v : List ℕ × List (ℕ × ℕ)). v.1) c.self.view_is in
    let all : take c.loop-pair.pair-index c.args.self.now.1 ≡ c.args.self.now.1 = take_all c.loop-pair.pair-index c.args.self.now.1
    (subst (λ (l : List (ℕ × ℕ)). length l ≤ c.loop-pair.pair-index) same c.loop-pair-test.false) in
    none_left c.args.self.now.1 c.args.t c.loop-pair.least
    (subst (λ (l : List (ℕ × ℕ)). LeastAmong l c.args.t c.loop-pair.least) all c.loop-pair.invariant)
