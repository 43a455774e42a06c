use Rattle.sgt_textbook.proofs.Histories.{commit_ordered}
use Rattle.sgt_textbook.proofs.laws.legal_are_commit_ordered.Goals as goal

pub returns : goal.returns
returns c = commit_ordered c.commits_in_order.ensures c.commit_order_is_total.ensures
