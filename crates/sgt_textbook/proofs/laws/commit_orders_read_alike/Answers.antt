use Rattle.sgt_textbook.proofs.laws.commit_orders_read_alike.Goals as goal

pub returns : goal.returns
returns c = λ number injective s past h. c.serial_runs_read_alike.ensures _ _ (c.legal_are_well_formed.ensures number injective s past h)
    (c.commit_orders_are_serial.ensures number injective s past h).1
