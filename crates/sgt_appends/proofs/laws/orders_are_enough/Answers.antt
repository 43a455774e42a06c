use Rattle.sgt_appends.proofs.Along.{along_enough}
use Rattle.sgt_appends.proofs.laws.orders_are_enough.Goals as goal

pub returns : goal.returns
returns c = along_enough
