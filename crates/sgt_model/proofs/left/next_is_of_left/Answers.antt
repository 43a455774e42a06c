use Rattle.sgt_model.proofs.LeftRuns.{next_is_of_left}
use Rattle.sgt_model.proofs.left.next_is_of_left.Goals as goal

pub returns : goal.returns
returns c = next_is_of_left
