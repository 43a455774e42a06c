use Rattle.std.proofs.Common.{rules}
use Rattle.sgt_clients.specs.Histories.{answered}
use Rattle.sgt_clients.proofs.Stored.{changed_past, answer_committed, answer_other}
use Rattle.sgt_clients.proofs.clients.answer.Goals as goal

pub returns-then-number-transactions : goal.returns-then-number-transactions
returns-then-number-transactions c = changed_past (answered c.args.status c.args.entry) c.args.transactions.now c.args.number (search rules)

pub returns-in-Committed : goal.returns-in-Committed
returns-in-Committed c =
    answer_committed c.args.transactions.now c.args.number c.args.status c.args.entry c.index-transactions-number.result (search rules)
    c.in-Committed.is

pub returns-in-Aborted : goal.returns-in-Aborted
returns-in-Aborted c =
    answer_other c.args.transactions.now c.args.number c.args.status c.args.entry c.index-transactions-number-in-Aborted.result (search rules)
    c.in-Aborted.is
