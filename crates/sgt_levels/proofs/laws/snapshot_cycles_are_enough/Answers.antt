use Rattle.sgt_levels.proofs.Split.{snapshot_cycle}
use Rattle.sgt_levels.proofs.laws.snapshot_cycles_are_enough.Goals as goal

pub returns : goal.returns
returns c = snapshot_cycle
