use Rattle.std.proofs.Common.{rules}
use Rattle.sgt_appends.specs.Indexes.{position_of}
use Rattle.sgt_levels.proofs.WriteOrders.{not_written, nowhere_written}
use Rattle.sgt_levels.proofs.writes.is_written.Goals as goal

pub returns-in-Some : goal.returns-in-Some
returns-in-Some c = λ no.
    not_written c.args.history.now (position_of c.args.appends.now) c.args.key c.args.value c.in-Some.found c.requires (search rules)
    (c.has_committed.ensures.no no)

pub returns-in-None : goal.returns-in-None
returns-in-None c = λ no.
    nowhere_written c.args.history.now (position_of c.args.appends.now) c.args.key c.args.value c.requires (search rules)
