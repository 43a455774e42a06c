use Rattle.sgt_levels.proofs.Order.{serial_snapshot}
use Rattle.sgt_levels.proofs.laws.serial_is_snapshot.Goals as goal

pub returns : goal.returns
returns c = serial_snapshot
