use Rattle.std.proofs.Common.{◌∙◌, sym}
use Rattle.sgt_clients.specs.Histories.{without_active}
use Rattle.sgt_clients.proofs.Stored.{stores_some, stores_none}
use Rattle.sgt_clients.proofs.clients.ClientsReader.end.Goals as goal

pub returns-in_ok-end_active-in-Some-clause-stored : goal.returns-in_ok-end_active-in-Some-clause-stored
returns-in_ok-end_active-in-Some-clause-stored c = λ p was.
    stores_some c.args.self.now c.end_active.new.self c.args.status c.args.entry c.in-Some.invocation p was
    (sym c.remove_active.ensures.was ∙ c.in-Some.is)
    (c.in_ok-end_active-in-Some.ensures.stored (without_active c.args.entry.process p) (c.remove_active.ensures.stored p was))

pub returns-in_ok-add_ended-in-None-clause-stored : goal.returns-in_ok-add_ended-in-None-clause-stored
returns-in_ok-add_ended-in-None-clause-stored c = λ p was.
    stores_none c.args.self.now c.add_ended.new.self c.args.status c.args.entry p was
    (sym c.remove_active.ensures.was ∙ c.in-None.is)
    (c.in_ok-add_ended-in-None.ensures.stored p (c.remove_active.ensures.none c.in-None.is p was))
