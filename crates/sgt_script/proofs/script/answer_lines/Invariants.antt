use Rattle.std.proofs.Common.{◌≡◌, ◌≤◌, ◌+◌, false}
use Rattle.sgt_input.specs.Intake.{bytes_left, come, cut_left}
use Rattle.sgt_engine.specs.EngineView.{configuration_of}
use Rattle.sgt_script.specs.Parts.{part_at}
use Rattle.sgt_script.proofs.Beginnings.{IsAnsweredSo}
use Rattle.sgt_script.proofs.script.answer_lines.Given as goal

abbrev pub invariant-loop-gathered : goal.invariant-loop-gathered
invariant-loop-gathered g l = record {
  so : IsAnsweredSo l.fn.output (configuration_of l.fn.engine) (l.fn.lines.number + 1) (cut_left l.fn.lines (g.S.Source.rest l.fn.source))
      (bytes_left l.fn.lines (g.S.Source.rest l.fn.source)) (g.T.Sink.held l.fn.sink) l.lines (g.S.Source.rest l.source)
      (g.T.Sink.held l.sink) l.gathered.items (part_at l.engine);
  ended : l.lines.ended ≡ false → l.fn.lines.ended ≡ false;
  counted : g.S.Source.given l.source + come l.fn.lines ≤ g.S.Source.given l.fn.source + come l.lines;
  few : come l.lines ≤ 4294967297;
  reading : g.S.Source.failures l.source ≡ g.S.Source.failures l.fn.source;
  writing : g.T.Sink.failures l.sink ≡ g.T.Sink.failures l.fn.sink;
}

abbrev pub decreases-loop-gathered : goal.decreases-loop-gathered
decreases-loop-gathered g l = l.lines.within
