use Rattle.std.proofs.Common.{◌≡◌, ◌<◌, ℕ, true, false, length, get_or}
use Rattle.sgt_appends.specs.Graphs.{IsSorted, AreOrdered}
use Rattle.sgt_appends.proofs.sorting.visit_all.Given as goal

abbrev pub invariant-loop-node : goal.invariant-loop-node
invariant-loop-node l = record {
  sorted : IsSorted l.links l.heads l.before.items l.ranks;
  ordered : AreOrdered l.ranks l.order.items;
  nodes : length l.ranks ≡ length l.fn.ranks;
  marks : length l.met ≡ length l.ranks;
  placed : (v : ℕ) → get_or l.met v false ≡ true → 0 < get_or l.ranks v 0;
  met : (v : ℕ) → v < l.node → get_or l.met v false ≡ true;
}
