use Rattle.sgt_model.proofs.ExecutedReplay.{is_executed}
use Rattle.sgt_model.proofs.laws.histories_are_executed.Goals as goal

pub returns : goal.returns
returns c = is_executed
