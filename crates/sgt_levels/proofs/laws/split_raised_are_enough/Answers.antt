use Rattle.sgt_levels.proofs.Raises.{split_raised}
use Rattle.sgt_levels.proofs.laws.split_raised_are_enough.Goals as goal

pub returns : goal.returns
returns c = split_raised
