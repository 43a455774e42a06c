use Rattle.std.proofs.Common.{rules}
use Rattle.sgt_levels.proofs.unseen.append_of.Goals as goal

pub returns-clause-ended : goal.returns-clause-ended
returns-clause-ended c = c.has_committed.ensures.yes (search rules)
