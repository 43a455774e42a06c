use Rattle.sgt_model.proofs.CommitOrder.{commit_order_is_total}
use Rattle.sgt_model.proofs.laws.commit_order_is_total.Goals as goal

pub returns : goal.returns
returns c = commit_order_is_total
