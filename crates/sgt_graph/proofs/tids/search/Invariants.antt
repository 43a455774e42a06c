use Rattle.std.proofs.Common.{◌≡◌, ◌<◌, ℕ, false}
use Rattle.sgt_graph.specs.BitGraphs.{is_at}
use Rattle.sgt_graph.proofs.tids.search.Given as goal

abbrev pub invariant-loop-index : goal.invariant-loop-index
invariant-loop-index l = (i : ℕ) → i < l.index → is_at l.taken l.tids l.t i ≡ false
