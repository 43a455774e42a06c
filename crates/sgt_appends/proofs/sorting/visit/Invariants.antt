use Rattle.std.proofs.Common.{◌≡◌, ◌+◌, ◌*◌, ℕ, true, false, length, get_or}
use Rattle.sgt_appends.specs.Graphs.{IsSorted, AreOrdered, IsReached, unmet}
use Rattle.sgt_appends.proofs.sorting.visit.Given as goal

abbrev pub invariant-loop-link : goal.invariant-loop-link
invariant-loop-link l = record {
  sorted : IsSorted l.links l.heads l.before l.ranks;
  ordered : AreOrdered l.ranks l.order.items;
  nodes : length l.ranks ≡ length l.fn.ranks;
  marks : length l.met ≡ length l.fn.met;
  is : IsReached l.links l.root l.met l.ranks l.path.items l.at;
  others : (v : ℕ) → get_or l.fn.met v false ≡ true → get_or l.met v false ≡ true;
}

abbrev pub decreases-loop-link : goal.decreases-loop-link
decreases-loop-link l = 2 * unmet l.met + length l.path.items
