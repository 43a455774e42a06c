use Rattle.sgt_levels.proofs.Rounds.{spaced_cycle}
use Rattle.sgt_levels.proofs.laws.spaced_cycles_are_enough.Goals as goal

pub returns : goal.returns
returns c = spaced_cycle
