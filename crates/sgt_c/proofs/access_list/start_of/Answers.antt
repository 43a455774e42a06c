use Rattle.std.proofs.Common.{◌-◌, rules}
use Rattle.sgt_c.proofs.CallerAccesses.{none_before_start}
use Rattle.sgt_c.proofs.access_list.start_of.Goals as goal

pub returns-then-eq-clause-none : goal.returns-then-eq-clause-none
returns-then-eq-clause-none c =
    none_before_start c.requires.0 c.args.history.now.entries (c.loop-at.at - 1) c.args.t c.entry.result c.requires.1 c.entry.ensures.next
    (search rules)
