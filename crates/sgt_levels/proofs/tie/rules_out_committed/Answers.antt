use Rattle.sgt_levels.proofs.Commits.{committed_cycle}
use Rattle.sgt_levels.proofs.tie.rules_out_committed.Goals as goal

pub returns : goal.returns
returns c = λ yes. let it = c.is_cycle.ensures yes in committed_cycle c.args.history.now it.0 it.1 c.requires it.2
