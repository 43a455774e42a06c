use Rattle.std.proofs.Common.{◌≡◌, ◌+◌, ◌++◌, take, vec_len, vec_capacity}
use Rattle.sgt_log.proofs.span.Span.append.Given as goal

abbrev pub invariant-loop-item : goal.invariant-loop-item
invariant-loop-item g l = record {
  items : l.list.items ≡ l.fn.list.items ++ take l.item-index l.items;
  len : vec_len l.list ≡ vec_len l.fn.list + l.item-index;
  capacity : vec_capacity l.list ≡ vec_capacity l.fn.list;
}
