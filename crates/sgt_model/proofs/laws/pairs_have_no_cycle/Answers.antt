use Rattle.sgt_model.proofs.NoCycle.{no_cycle}
use Rattle.sgt_model.proofs.laws.pairs_have_no_cycle.Goals as goal

pub returns : goal.returns
returns c = no_cycle
