use Rattle.sgt_levels.proofs.Examples.{write_skew}
use Rattle.sgt_levels.proofs.laws.write_skew_is_between.Goals as goal

pub returns : goal.returns
returns c = write_skew
