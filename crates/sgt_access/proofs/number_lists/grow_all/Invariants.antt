use Rattle.std.proofs.Common.{◌≡◌, length}
use Rattle.sgt_access.specs.NumberLists.{contents}
use Rattle.sgt_access.proofs.number_lists.grow_all.Given as goal

abbrev pub invariant-loop-index : goal.invariant-loop-index
invariant-loop-index l = record {
  long : length l.lists.items ≡ length l.fn.lists.items;
  same : contents l.lists.items ≡ contents l.fn.lists.items;
}
