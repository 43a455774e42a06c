use Rattle.sgt_levels.proofs.Commits.{committed_cycle}
use Rattle.sgt_levels.proofs.laws.committed_cycles_are_enough.Goals as goal

pub returns : goal.returns
returns c = committed_cycle
