use Rattle.sgt_levels.proofs.Commits.{committed_follows}
use Rattle.sgt_levels.proofs.laws.commits_are_obeyed.Goals as goal

pub returns : goal.returns
returns c = committed_follows
