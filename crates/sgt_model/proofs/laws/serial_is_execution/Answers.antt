use Rattle.sgt_model.proofs.Executions.{serial_is}
use Rattle.sgt_model.proofs.laws.serial_is_execution.Goals as goal

pub returns : goal.returns
returns c = serial_is
