use Rattle.sgt_progress.proofs.Alone.{started_alone}
use Rattle.sgt_progress.proofs.laws.started_alone.Goals as goal

pub returns : goal.returns
returns c = started_alone
