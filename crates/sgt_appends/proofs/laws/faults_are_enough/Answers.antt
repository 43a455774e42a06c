use Rattle.sgt_appends.proofs.Faulty.{fault_enough}
use Rattle.sgt_appends.proofs.laws.faults_are_enough.Goals as goal

pub returns : goal.returns
returns c = fault_enough
