use Rattle.std.proofs.Common.{◌≡◌, ◌≤◌, ◌+◌, false}
use Rattle.sgt_model.specs.Databases.{contents_of}
use Rattle.sgt_input.specs.Intake.{bytes_left, come, cut_left}
use Rattle.sgt_input.specs.Records.{Passes}
use Rattle.sgt_input.proofs.RecordsPut.{Fills}
use Rattle.sgt_input.proofs.records.read_records.Given as goal

abbrev pub invariant-loop-rows : goal.invariant-loop-rows
invariant-loop-rows g l = record {
  fills : Fills l.fn.lines.number (contents_of l.fn.opening.database) (cut_left l.fn.lines (g.S.Source.rest l.fn.source))
      l.lines.number (contents_of l.rows) (cut_left l.lines (g.S.Source.rest l.source));
  passed : l.lines.ended ≡ false → Passes l.fn.lines.number (bytes_left l.fn.lines (g.S.Source.rest l.fn.source))
      l.lines.number (bytes_left l.lines (g.S.Source.rest l.source));
  counted : g.S.Source.given l.source + come l.fn.lines ≤ g.S.Source.given l.fn.source + come l.lines;
  few : come l.lines ≤ 4294967297;
  ended : l.lines.ended ≡ false → l.fn.lines.ended ≡ false;
  well : g.S.Source.failures l.source ≡ g.S.Source.failures l.fn.source;
}

abbrev pub decreases-loop-rows : goal.decreases-loop-rows
decreases-loop-rows g l = l.lines.within
