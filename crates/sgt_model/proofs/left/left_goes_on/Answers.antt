use Rattle.sgt_model.proofs.LeftRuns.{left_after_look, left_after_store}
use Rattle.sgt_model.proofs.left.left_goes_on.Goals as goal

pub returns-clause-look : goal.returns-clause-look
returns-clause-look c = left_after_look

pub returns-clause-store : goal.returns-clause-store
returns-clause-store c = left_after_store
