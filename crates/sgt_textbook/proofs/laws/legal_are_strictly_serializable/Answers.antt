use Rattle.sgt_textbook.proofs.RealTime.{orders_keep_real_time, are_strictly_serializable}
use Rattle.sgt_textbook.proofs.laws.legal_are_strictly_serializable.Goals as goal

pub returns : goal.returns
returns c = record {
  order = orders_keep_real_time c.commits_in_order.ensures c.commit_order_is_total.ensures;
  each = are_strictly_serializable c.commits_in_order.ensures c.commit_order_is_total.ensures;
}
