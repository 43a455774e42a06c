use Rattle.std.proofs.Common.{rules, ◌≡◌, ◌∙◌, length, ap, subst}
use Rattle.sgt_clients.specs.Histories.{begun, ended}
use Rattle.sgt_clients.specs.Reading.{Stores}
use Rattle.sgt_clients.proofs.Stored.{on_ok}
use Rattle.sgt_clients.proofs.clients.ClientsReader.add_ended.Goals as goal

pub returns-clause-stored : goal.returns-clause-stored
returns-clause-stored c =
    let number : c.len-number.result ≡ length c.args.self.now.transactions.items = search rules in
    on_ok c.note_end.result _ _ (λ more p was.
    subst (λ n. Stores c.note_end.new.self (ended c.args.status n (begun c.args.status c.args.entry.operations p)))
    (number ∙ ap length was.transactions)
    (more (begun c.args.status c.args.entry.operations p) (c.in_ok-add.ensures.stored p
    (c.in_ok-note_alone.ensures.stored p was))))
    c.note_end.ensures.stored
