use Rattle.std.proofs.Common.{◌≡◌, ◌<◌, ◌∙◌, ℕ, List, length, slice_index_or, take, sym, subst}
use Rattle.sgt_model.specs.Paths.{Member}
use Rattle.sgt_cycle.specs.Links.{is_link}
use Rattle.sgt_cycle.specs.Path.{NoPath}
use Rattle.sgt_graph.proofs.Lists.{at_member}
use Rattle.sgt_graph.proofs.Insertion.{no_path, still_no_path, adds_next}
use Rattle.sgt_graph.proofs.pair_graph.PairGraphGraph.link.Goals as goal

-- an item of a list is a member
member_here : (preds : List ℕ) (i u : ℕ) → i < length preds → u ≡ slice_index_or preds i u → Member u preds
member_here preds i u below is = subst (λ x. Member x preds) (sym is) (at_member preds i u below)

pub add_pair-requires-clause-from : goal.add_pair-requires-clause-from
add_pair-requires-clause-from c =
    let member : Member c.pred-item.result c.args.preds.now = rw c.as_slice-pred-items.ensures at
    (member_here c.as_slice-pred-items.result.now c.loop-pred.pred-index c.pred-item.result c.loop-pred-test.true c.pred-item.is) in
    rw c.loop-pred.invariant.nodes (c.requires.preds c.pred-item.result member).0

pub add_pair-requires-clause-free : goal.add_pair-requires-clause-free
add_pair-requires-clause-free c =
    let member : Member c.pred-item.result c.args.preds.now = rw c.as_slice-pred-items.ensures at
    (member_here c.as_slice-pred-items.result.now c.loop-pred.pred-index c.pred-item.result c.loop-pred-test.true c.pred-item.is) in
    let none : NoPath (is_link c.args.self.now.1) c.args.t c.args.preds.now = c.requires.free in
    still_no_path c.args.self.now.1 c.loop-pred.self.1 c.args.t (take c.loop-pred.pred-index c.args.preds.now) c.loop-pred.invariant.pairs
    c.pred-item.result
    (no_path (is_link c.args.self.now.1) c.args.t c.args.preds.now none c.pred-item.result member)

pub loop-pred-preserved : goal.loop-pred-preserved
loop-pred-preserved c =
    let below : c.loop-pred.pred-index < length c.args.preds.now =
    subst (λ l. c.loop-pred.pred-index < length l) c.as_slice-pred-items.ensures c.loop-pred-test.true in
    let is : c.pred-item.result ≡ slice_index_or c.args.preds.now c.loop-pred.pred-index c.pred-item.result = subst
    (λ l. c.pred-item.result ≡ slice_index_or l c.loop-pred.pred-index c.pred-item.result) c.as_slice-pred-items.ensures
    c.pred-item.is in
    record {
      nodes = c.add_pair.ensures.nodes ∙ c.loop-pred.invariant.nodes;
      pairs = adds_next c.args.self.now.1 c.loop-pred.self.1 c.add_pair.new.self.1 c.args.t c.args.preds.now c.loop-pred.pred-index
          c.pred-item.result below is c.loop-pred.invariant.pairs c.add_pair.ensures.pairs;
    }
