use Rattle.sgt_levels.proofs.Split.{split_obeyed}
use Rattle.sgt_levels.proofs.laws.split_is_obeyed.Goals as goal

pub returns : goal.returns
returns c = split_obeyed
