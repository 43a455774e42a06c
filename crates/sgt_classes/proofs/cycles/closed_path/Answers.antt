use Rattle.std.proofs.Common.{rules, ◌≡◌, ◌+◌, ◌-◌, ℕ, List, Some, length, sym, subst, arith}
use Rattle.std.specs.Prelude.{slice_get}
use Rattle.std.proofs.lemmas.Option.{slice_get-get_or}
use Rattle.sgt_classes.specs.declared.operation.Operation.{Operation}
use Rattle.sgt_classes.specs.declared.graph.Edge.{Edge}
use Rattle.sgt_classes.specs.Serializability.{IsCycle, IsEdgeBy}
use Rattle.sgt_classes.proofs.ClosedPaths.{Closes, closes_more, closes_cycle}
use Rattle.sgt_classes.proofs.cycles.closed_path.Goals as goal

pub returns-then-edge-met : goal.returns-then-edge-met
returns-then-edge-met c =
    let path = c.args.path.now in
    let p : ℕ = c.loop-passed.passed in
    let k : ℕ = length path - 1 - p in
    let is : p + k + 1 ≡ length path = omega (arith, c.loop-passed-test.true) in
    let at = slice_get-get_or path k _ (omega (arith, is)) in
    subst (λ l. (h : List Operation) → ((n : ℕ) (e : Edge) → slice_get path n ≡ Some e → IsEdgeBy h e) → IsCycle h l)
    (sym c.in_ok-push.ensures.items)
    (closes_cycle path c.loop-passed.cycle.items c.args.met p k _ c.requires.path c.loop-passed.invariant is at (search rules))

pub loop-passed-preserved : goal.loop-passed-preserved
loop-passed-preserved c =
    let path = c.args.path.now in
    let p : ℕ = c.loop-passed.passed in
    let k : ℕ = length path - 1 - p in
    let is : p + k + 1 ≡ length path = omega (arith, c.loop-passed-test.true) in
    let at = slice_get-get_or path k _ (omega (arith, is)) in
    subst (λ l. Closes path l c.args.met (p + 1)) (sym c.in_ok-push.ensures.items)
    (closes_more path c.loop-passed.cycle.items c.args.met p k _ c.loop-passed.invariant is at (search rules))
