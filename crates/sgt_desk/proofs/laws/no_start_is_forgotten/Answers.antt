use Rattle.sgt_desk.proofs.Turns.{none_is_forgotten}
use Rattle.sgt_desk.proofs.laws.no_start_is_forgotten.Goals as goal

pub returns : goal.returns
returns c = none_is_forgotten
