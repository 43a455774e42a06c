use Rattle.std.proofs.Common.{◌≡◌, ◌<◌, ◌≤◌, ◌+◌, ◌∙◌, ℕ, List, [], ◌∷◌, ◌++◌, ap, sym, arith, length, length-append, map, take, slice_index, slice_index_or}
use Rattle.std.proofs.lemmas.List.{map_more}
use Rattle.sgt_graph.proofs.Lists.{at_member}
use Rattle.sgt_graph.proofs.LeastIndices.{any_default}
use Rattle.sgt_graph.proofs.tids.tids_at.Goals as goal

pub listed : goal.listed
listed c =
    let low : slice_index_or c.args.cycle.now c.loop-index.index-index 0 < 32 =
    c.requires.low _ (at_member c.args.cycle.now c.loop-index.index-index 0 c.loop-index-test.true) in
    omega (arith, c.from.ensures, c.type_inv.tids)

pub bounds-tids-from : goal.bounds-tids-from
bounds-tids-from c =
    let low : slice_index_or c.args.cycle.now c.loop-index.index-index 0 < 32 =
    c.requires.low _ (at_member c.args.cycle.now c.loop-index.index-index 0 c.loop-index-test.true) in
    omega (arith, c.from.ensures)

pub loop-index-preserved : goal.loop-index-preserved
loop-index-preserved c =
    let cycle : List ℕ = c.args.cycle.now in
    let tids : List ℕ = c.args.tids.now in
    let at : ℕ = c.loop-index.index-index in
    let low : slice_index_or cycle at 0 < 32 = c.requires.low _ (at_member cycle at 0 c.loop-index-test.true) in
    let there : c.from.result < length tids = omega (arith, c.from.ensures, c.type_inv.tids) in
    let pushed : ℕ = slice_index_or tids c.from.result c.index-tids-from.result in
    let item : pushed ≡ slice_index tids (slice_index_or cycle at 0) =
    sym (any_default tids c.from.result c.index-tids-from.result there) ∙ ap (λ i. slice_index tids i) c.from.ensures in
    let grown : length c.push.new.self ≡ length c.loop-index.named + 1 = ap length c.push.ensures
    ∙ length-append c.loop-index.named (pushed ∷ []) in
    let few : length c.loop-index.named ≤ at = c.loop-index.invariant.few in
    record {
      named = c.push.ensures ∙ ap (λ l. l ++ pushed ∷ []) c.loop-index.invariant.named
          ∙ ap (λ x. map (λ i. slice_index tids i) (take at cycle) ++ x ∷ []) item
          ∙ sym (map_more (λ i. slice_index tids i) cycle at 0 c.loop-index-test.true);
      few = omega arith;
    }
