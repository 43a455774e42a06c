use Rattle.std.proofs.Common.{rules, ◌∙◌}
use Rattle.sgt_c.proofs.RowSteps.{report_row, rest_row}
use Rattle.sgt_c.proofs.rows.write_rows.Goals as goal

pub loop-i-preserved : goal.loop-i-preserved
loop-i-preserved c = record {
  capacity = search rules;
  written = report_row c.loop-i.to c.args.rows.now c.loop-i.i c.index-rows-i.result c.reported_row.result (search rules) (search rules)
      (c.reported_row.ensures ∙ c.index-rows-i.is) c.loop-i.invariant.written;
  rest = rest_row c.loop-i.to c.args.to.now c.loop-i.i c.reported_row.result c.loop-i.invariant.rest;
}
