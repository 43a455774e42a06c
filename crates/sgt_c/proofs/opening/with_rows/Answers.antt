use Rattle.sgt_model.specs.Databases.{contents_of}
use Rattle.sgt_c.proofs.RowSteps.{none, rows_next}
use Rattle.sgt_c.proofs.opening.with_rows.Goals as goal

pub loop-row-preserved : goal.loop-row-preserved
loop-row-preserved c =
    rows_next (contents_of c.loop-row.all) (contents_of c.put_row.new.rows) (contents_of c.args.database) c.args.rows.now
    c.loop-row.row-index none c.loop-row-test.true c.loop-row.invariant c.in_ok-put_row.ensures
