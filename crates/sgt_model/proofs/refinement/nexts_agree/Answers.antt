use Rattle.sgt_model.proofs.Joining.{nexts_agree}
use Rattle.sgt_model.proofs.refinement.nexts_agree.Goals as goal

pub returns : goal.returns
returns c = nexts_agree
