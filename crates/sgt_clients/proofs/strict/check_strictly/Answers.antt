use Rattle.sgt_clients.proofs.strict.check_strictly.Goals as goal

pub returns-in_ok-check_clients-in_default : goal.returns-in_ok-check_clients-in_default
returns-in_ok-check_clients-in_default c =
    c.violated.ensures c.args.clients.now.transactions.items c.args.clients.now.spans.items c.in_ok-check_clients-in_default.ensures
