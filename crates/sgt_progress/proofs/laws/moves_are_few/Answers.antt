use Rattle.sgt_progress.proofs.Drains.{moves_are_few}
use Rattle.sgt_progress.proofs.laws.moves_are_few.Goals as goal

pub returns : goal.returns
returns c = moves_are_few
