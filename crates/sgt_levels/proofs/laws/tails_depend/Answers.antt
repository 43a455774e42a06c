use Rattle.sgt_levels.proofs.Raises.{tail_depends}
use Rattle.sgt_levels.proofs.laws.tails_depend.Goals as goal

pub returns : goal.returns
returns c = tail_depends
