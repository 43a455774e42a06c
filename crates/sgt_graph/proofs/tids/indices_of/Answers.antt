use Rattle.std.proofs.Common.{◌≡◌, ◌<◌, ◌+◌, ◌∙◌, ℕ, List, length, slice_index_or, take, ap, sym, subst, refl}
use Rattle.std.specs.Prelude.{◌||◌}
use Rattle.sgt_cycle.specs.Indices.{is_set}
use Rattle.sgt_graph.proofs.AtIndices.{AreIndices, indices_none, indices_more, indices_skip}
use Rattle.sgt_graph.proofs.tids.indices_of.Goals as goal
use Rattle.sgt_graph.proofs.tids.indices_of.Goals.{in-Some, in_default}

pub loop-t-init : goal.loop-t-init
loop-t-init c = indices_none c.args.taken c.args.tids.now

pub loop-t-preserved : goal.loop-t-preserved
loop-t-preserved c =
    let taken : ℕ = c.args.taken in
    let tids : List ℕ = c.args.tids.now in
    let among : List ℕ = c.args.among.now in
    let k : ℕ = c.loop-t.t-index in
    let t : ℕ = c.t-item.result in
    let below : k < length among = subst (λ l. k < length l) c.as_slice-t-items.ensures c.loop-t-test.true in
    let is : t ≡ slice_index_or among k t = subst (λ l. t ≡ slice_index_or l k t) c.as_slice-t-items.ensures c.t-item.is in
    elim c.match-index_of.branch [
      | in-Some w ↦ subst (λ f. AreIndices taken tids (take (k + 1) among) f) (sym w.found-is)
          (indices_more taken tids among k t c.loop-t.found below is c.loop-t.invariant w.in-Some.index w.joined-found.result
          c.requires.apart w.in-Some.ensures.some.1
          (λ i. w.joined-found.ensures i ∙ ap (λ x. is_set c.loop-t.found i || x) (w.only.ensures i)))
      | in_default w ↦ subst (λ f. AreIndices taken tids (take (k + 1) among) f) (sym w.found-is)
          (indices_skip taken tids among k t c.loop-t.found below is c.loop-t.invariant (w.in_default.ensures.none refl))
    ]
