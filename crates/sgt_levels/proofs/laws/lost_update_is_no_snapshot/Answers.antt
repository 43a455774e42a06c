use Rattle.sgt_levels.proofs.Examples.{lost_update}
use Rattle.sgt_levels.proofs.laws.lost_update_is_no_snapshot.Goals as goal

pub returns : goal.returns
returns c = lost_update
