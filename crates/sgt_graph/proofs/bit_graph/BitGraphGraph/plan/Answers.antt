use Rattle.std.proofs.Common.{rules, ◌≡◌, ℕ, List, true, false, sym, subst, refl, slice_index}
use Rattle.std.specs.Prelude.{◌↔◌}
use Rattle.std.proofs.lemmas.Bool.{both_ways}
use Rattle.sgt_model.specs.Paths.{Member}
use Rattle.sgt_cycle.specs.Indices.{is_set, is_bit}
use Rattle.sgt_graph.specs.declared.verdict.Verdict.{Verdict}
use Rattle.sgt_graph.specs.declared.verdict.Verdict.TheVariants.{Accepted, Closes}
use Rattle.sgt_graph.specs.Verdicts.{IsVerdict}
use Rattle.sgt_graph.specs.BitGraphs.{is_at, is_pair, is_placed, IsBitGraph, IsIndexVerdict}
use Rattle.sgt_graph.proofs.Placed.{placed_at}
use Rattle.sgt_graph.proofs.BitSteps.{verdict_of}
use Rattle.sgt_graph.proofs.bit_graph.BitGraphGraph.plan.Goals as goal
use Rattle.sgt_graph.proofs.bit_graph.BitGraphGraph.plan.Goals.{After-meets}

pub unreachable-requires : goal.unreachable-requires
unreachable-requires c =
    let node : is_placed c.self.inside.taken c.self.inside.tids c.args.t ≡ true =
    subst (λ (v : ℕ × List ℕ × List ℕ × List ℕ). is_placed v.0 v.1 c.args.t ≡ true) (sym c.self.view_is) c.requires.node in
    both_ways _ (c.in_default.ensures.none refl _) (placed_at c.self.inside.taken c.self.inside.tids c.args.t node)

-- the value is a graph
graph : (c : After-meets) → IsBitGraph c.args.self.now.0 c.args.self.now.1 c.args.self.now.2 c.args.self.now.3
graph c = subst (λ (v : ℕ × List ℕ × List ℕ × List ℕ). IsBitGraph v.0 v.1 v.2 v.3) c.self.view_is c.self.invariant

-- t stands at the index
here : (c : After-meets) → is_at c.args.self.now.0 c.args.self.now.1 c.args.t c.in-Some.to ≡ true
here c = subst (λ (v : ℕ × List ℕ × List ℕ × List ℕ). is_at v.0 v.1 c.args.t c.in-Some.to ≡ true) c.self.view_is c.in-Some.ensures.some.1

-- and the others at those of the set
exact : (c : After-meets) (i : ℕ) → (is_set c.indices_of-from.result i ≡ true)
    ↔ ((is_set c.args.self.now.0 i ≡ true) × Member (slice_index c.args.self.now.1 i) c.args.preds.now)
exact c = subst (λ (v : ℕ × List ℕ × List ℕ × List ℕ). (i : ℕ)
    → (is_set c.indices_of-from.result i ≡ true) ↔ ((is_set v.0 i ≡ true) × Member (slice_index v.1 i) c.args.preds.now)) c.self.view_is
    c.indices_of-from.ensures

-- so what is said of indices is said of transactions
verdict : (c : After-meets) (verdict : Verdict)
    → IsIndexVerdict c.args.self.now.1 c.args.self.now.2 c.args.self.now.3 c.in-Some.to c.indices_of-from.result verdict
    → IsVerdict (is_pair c.args.self.now.0 c.args.self.now.1 c.args.self.now.2) c.args.t c.args.preds.now verdict
verdict c = verdict_of c.args.self.now.0 c.args.self.now.1 c.args.self.now.2 c.args.self.now.3 (graph c) c.args.t c.in-Some.to
    c.indices_of-from.result c.args.preds.now (here c) (exact c) (λ u m. (c.requires.preds u m).1)

pub returns-then-meets : goal.returns-then-meets
returns-then-meets c = record {
  plan = verdict (goal.at.returns-then-meets c).After-meets (Closes c.cycle.result) c.cycle.ensures;
}

pub returns : goal.returns
returns c =
    let at = (goal.at.returns c).After-meets in
    let none_back : (j : ℕ) → is_set c.indices_of-from.result j ≡ true → is_bit c.args.self.now.3 c.in-Some.to j ≡ false = search rules in
    record {
      plan = (
        verdict at Accepted none_back,
        record { low = c.in-Some.ensures.some.0; here = here at; exact = exact at; none_back = none_back },
      );
    }
