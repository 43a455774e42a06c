use Rattle.sgt_textbook.proofs.ReadingFrom.{recoverable}
use Rattle.sgt_textbook.proofs.laws.legal_are_recoverable.Goals as goal

pub returns : goal.returns
returns c = recoverable c.commits_in_order.ensures c.commit_order_is_total.ensures
