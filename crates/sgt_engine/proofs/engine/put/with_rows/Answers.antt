use Rattle.std.proofs.Common.{sym, ◌∙◌}
use Rattle.sgt_model.specs.Databases.{contents_of}
use Rattle.sgt_engine.proofs.Puts.{row_new, row_put, value_at}
use Rattle.sgt_engine.proofs.engine.put.with_rows.Goals as goal

pub put_row-requires : goal.put_row-requires
put_row-requires c = rw c.index-rows-index.is (record {
  in_range = value_at c.args.rows.now c.loop-index.index c.index-rows-index.result c.loop-index-test.true c.requires.in_range;
})

pub loop-index-preserved : goal.loop-index-preserved
loop-index-preserved c =
    let row = c.index-rows-index.result in
    let so_far = c.loop-index.invariant in
    record {
      contents = row_put (contents_of c.args.database) c.args.rows.now c.loop-index.index row c.loop-index-test.true
          c.index-rows-index.is _ _ so_far.contents (c.in_ok-put_row.ensures.put c.if-not-branch.false);
      new = row_new (contents_of c.args.database) c.args.rows.now c.loop-index.index row c.loop-index-test.true
          c.index-rows-index.is so_far.new (sym (so_far.contents row.0) ∙ c.in_ok-put_row.ensures.new c.if-not-branch.false);
    }
