use Rattle.std.proofs.Common.{rules, ◌≡◌, ◌∙◌, length, ap, subst}
use Rattle.sgt_appends.specs.declared.transaction.Status.TheVariants.{Unknown}
use Rattle.sgt_clients.specs.Histories.{begun, with_active}
use Rattle.sgt_clients.specs.Reading.{Stores}
use Rattle.sgt_clients.proofs.clients.ClientsReader.begin.Goals as goal

pub returns-clause-stored : goal.returns-clause-stored
returns-clause-stored c = λ p was.
    let number : c.len-transaction.result ≡ length c.args.self.now.transactions.items = search rules in
    subst (λ n. Stores c.note_active.new.self (with_active c.args.entry.process (record { transaction = n; accesses = c.args.entry.accesses })
    (begun Unknown c.args.entry.operations p)))
    (number ∙ ap length was.transactions)
    (c.in_ok-note_active.ensures.stored (begun Unknown c.args.entry.operations p) (c.in_ok-add.ensures.stored p was))
