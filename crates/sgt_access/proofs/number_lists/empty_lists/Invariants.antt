use Rattle.std.proofs.Common.{◌≡◌, [], replicate, vec_len, vec_capacity}
use Rattle.sgt_access.specs.NumberLists.{contents}
use Rattle.sgt_access.proofs.number_lists.empty_lists.Given as goal

abbrev pub invariant-loop : goal.invariant-loop
invariant-loop l = record {
  long : vec_len l.lists ≡ l.counter;
  capacity : vec_capacity l.lists ≡ 32;
  empty : contents l.lists.items ≡ replicate l.counter [];
}
