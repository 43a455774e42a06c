use Rattle.sgt_textbook.proofs.SerialOrder.{commit_order_serial}
use Rattle.sgt_textbook.proofs.laws.commit_orders_are_serial.Goals as goal

pub returns : goal.returns
returns c = λ number injective s past h.
    let serial = commit_order_serial c.commits_in_order.ensures c.commit_order_is_total.ensures number injective s past h in
    (serial, (c.serial_orders_are_enough.ensures _ _ serial).1)
