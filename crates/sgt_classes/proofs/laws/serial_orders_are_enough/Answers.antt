use Rattle.sgt_classes.proofs.EdgeDecisions.{serial_order_enough}
use Rattle.sgt_classes.proofs.laws.serial_orders_are_enough.Goals as goal

pub returns : goal.returns
returns c = serial_order_enough
