use Rattle.sgt_model.proofs.Sources.{sources_are_committed}
use Rattle.sgt_model.proofs.laws.sources_commit_before_replies.Goals as goal

pub returns : goal.returns
returns c = sources_are_committed
