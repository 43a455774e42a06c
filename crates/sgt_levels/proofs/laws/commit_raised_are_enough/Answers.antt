use Rattle.sgt_levels.proofs.Lates.{commit_raised}
use Rattle.sgt_levels.proofs.laws.commit_raised_are_enough.Goals as goal

pub returns : goal.returns
returns c = commit_raised
