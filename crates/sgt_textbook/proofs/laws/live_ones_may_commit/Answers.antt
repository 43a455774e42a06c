use Rattle.sgt_textbook.proofs.MayCommit.{live_ones_may_commit}
use Rattle.sgt_textbook.proofs.laws.live_ones_may_commit.Goals as goal

pub returns : goal.returns
returns c = live_ones_may_commit
