use Rattle.sgt_progress.proofs.Progress.{histories_make_progress}
use Rattle.sgt_progress.proofs.laws.histories_make_progress.Goals as goal

pub returns : goal.returns
returns c = histories_make_progress
