use Rattle.sgt_model.proofs.OneReply.{replies_are_unique}
use Rattle.sgt_model.proofs.laws.replies_are_unique.Goals as goal

pub returns : goal.returns
returns c = replies_are_unique
