use Rattle.sgt_model.proofs.ReplySizes.{replies_name_few}
use Rattle.sgt_model.proofs.laws.replies_name_few.Goals as goal

pub returns : goal.returns
returns c = replies_name_few
