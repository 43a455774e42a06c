use Rattle.sgt_levels.proofs.Commits.{committed_fault}
use Rattle.sgt_levels.proofs.laws.committed_faults_are_enough.Goals as goal

pub returns : goal.returns
returns c = committed_fault
