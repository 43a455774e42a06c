use Rattle.sgt_model.proofs.SomeReply.{some_reply_is_legal}
use Rattle.sgt_model.proofs.laws.some_reply_is_legal.Goals as goal

pub returns : goal.returns
returns c = some_reply_is_legal
