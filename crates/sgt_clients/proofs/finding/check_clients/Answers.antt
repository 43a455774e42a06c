use Rattle.std.proofs.Common.{rules}
use Rattle.sgt_appends.specs.declared.check.Verdict.TheVariants.{Violated}
use Rattle.sgt_appends.specs.Verdicts.{IsRight}
use Rattle.sgt_clients.proofs.finding.check_clients.Goals as goal

pub returns-in_ok-finding_of-in-Violated : goal.returns-in_ok-finding_of-in-Violated
returns-in_ok-finding_of-in-Violated c =
    let right : IsRight c.args.clients.now.transactions.items (Violated c.in-Violated.witness) = search rules in
    c.in_ok-finding_of-in-Violated.ensures c.args.clients.now.transactions.items c.args.clients.now.spans.items right.0
