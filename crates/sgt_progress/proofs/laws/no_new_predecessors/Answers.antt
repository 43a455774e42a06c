use Rattle.sgt_progress.proofs.Predecessors.{no_new_predecessors}
use Rattle.sgt_progress.proofs.laws.no_new_predecessors.Goals as goal

pub returns : goal.returns
returns c = no_new_predecessors
