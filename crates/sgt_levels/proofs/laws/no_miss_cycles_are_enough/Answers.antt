use Rattle.sgt_levels.proofs.Rounds.{no_miss_cycle}
use Rattle.sgt_levels.proofs.laws.no_miss_cycles_are_enough.Goals as goal

pub returns : goal.returns
returns c = no_miss_cycle
