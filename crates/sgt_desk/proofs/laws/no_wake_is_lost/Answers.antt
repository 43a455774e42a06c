use Rattle.sgt_desk.proofs.Turns.{none_is_lost}
use Rattle.sgt_desk.proofs.laws.no_wake_is_lost.Goals as goal

pub returns : goal.returns
returns c = none_is_lost
