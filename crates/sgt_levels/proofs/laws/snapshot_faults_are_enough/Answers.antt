use Rattle.sgt_levels.proofs.Order.{snapshot_fault}
use Rattle.sgt_levels.proofs.laws.snapshot_faults_are_enough.Goals as goal

pub returns : goal.returns
returns c = snapshot_fault
