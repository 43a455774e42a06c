use Rattle.sgt_classes.proofs.FirstAccesses.{pairs_apart}
use Rattle.sgt_classes.proofs.first_accesses.set_pair.Goals as goal

pub returns-clause-others : goal.returns-clause-others
returns-clause-others c p differ = c.in_ok-insert.ensures.updates.2 p (pairs_apart c.args.pair p differ)
