use Rattle.std.proofs.Common.{rules, ◌≡◌, ℕ, List, Some, IfOk, subst}
use Rattle.std.specs.Prelude.{slice_get}
use Rattle.sgt_classes.specs.Tables.{entry_of}
use Rattle.sgt_classes.specs.declared.operation.Operation.{Operation}
use Rattle.sgt_classes.specs.declared.graph.Edge.{Edge}
use Rattle.sgt_classes.specs.Serializability.{IsCycle, IsEdgeBy}
use Rattle.sgt_classes.specs.Sorting.{IsTopEdge, LeadBack}
use Rattle.sgt_classes.proofs.serial.Waits.cycle.Goals as goal

pub cycle_back-requires-clause-back : goal.cycle_back-requires-clause-back
cycle_back-requires-clause-back c =
    let es = c.args.self.now.edges.items in
    let same : es ≡ c.as_slice.result.now = search rules in
    subst (λ l. LeadBack l (entry_of c.args.self.now.incoming.tops)) same (λ u k is.
    let top : IsTopEdge es (entry_of c.args.self.now.left) u (Some k) =
    subst (λ o. IsTopEdge es (entry_of c.args.self.now.left) u o) is (c.requires.waits.tops_are u) in
    (top.0.0, top.0.1, top.0.2, c.requires.all_wait _ (c.requires.wait u k top.0.0 is top.0.1)))

pub returns : goal.returns
returns c =
    let same : c.as_slice.result.now ≡ c.args.self.now.edges.items = search rules in
    subst (λ l. IfOk c.cycle_back.result (λ cycle. (h : List Operation)
    → ((k : ℕ) (e : Edge) → slice_get l k ≡ Some e → IsEdgeBy h e) → IsCycle h cycle.items)) same c.cycle_back.ensures
