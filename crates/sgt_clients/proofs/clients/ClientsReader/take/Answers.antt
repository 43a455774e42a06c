use Rattle.std.proofs.Common.{◌++◌, ◌∙◌, ap}
use Rattle.sgt_notation.specs.Numbering.{texts_of}
use Rattle.sgt_clients.specs.Histories.{counted}
use Rattle.sgt_clients.proofs.Stored.{uncounted}
use Rattle.sgt_clients.proofs.clients.ClientsReader.take.Goals as goal

pub returns-in-Ok-clause-taken : goal.returns-in-Ok-clause-taken
returns-in-Ok-clause-taken c =
    let it = c.in-Ok.ensures.taken in record {
      entry = it.entry;
      more = it.more;
      keys = it.keys ∙ ap (λ keys. texts_of keys ++ it.more) c.count.ensures.keys;
      others = it.others;
      processes = it.processes ∙ ap (λ names. texts_of names ++ it.others) c.count.ensures.processes;
      spelled = it.spelled;
      in_turn = λ p was. uncounted p it.entry (it.in_turn (counted p) (c.count.ensures.stored p was));
      stored = λ p was. it.stored (counted p) (c.count.ensures.stored p was);
      entries = it.entries ∙ c.count.ensures.entries;
      by_line = it.by_line ∙ c.count.ensures.by_line;
    }
