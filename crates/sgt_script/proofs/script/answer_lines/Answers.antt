use Rattle.std.proofs.Common.{rules, ◌+◌, refl}
use Rattle.sgt_input.specs.Intake.{bytes_left, cut_left}
use Rattle.sgt_format.specs.ScriptLines.{line_of}
use Rattle.sgt_engine.specs.EngineView.{configuration_of}
use Rattle.sgt_script.specs.Parts.{part_at}
use Rattle.sgt_script.proofs.Beginnings.{all-so, answered-flushed, answered-next, answered-none, fault-stop, some-failed, some-refused, some-stop, some-written}
use Rattle.sgt_script.proofs.WholeLines.{read-failed}
use Rattle.sgt_script.proofs.script.answer_lines.Goals as goal

pub loop-gathered-init : goal.loop-gathered-init
loop-gathered-init g c = record {
  so = answered-none c.args.output c.args.lines.now (g.S.Source.rest c.args.source.now) (g.T.Sink.held c.args.sink.now)
      c.reserve.new.self.items
      (configuration_of c.args.engine.now) c.args.engine.now.past (search rules) c.requires.fresh;
  ended = λ going. going;
  counted = search rules;
  few = search rules;
  reading = search rules;
  writing = search rules;
}

pub returns-then-is_err-clause-some : goal.returns-then-is_err-clause-some
returns-then-is_err-clause-some g c =
    let none = answered-none c.args.output c.args.lines.now (g.S.Source.rest c.args.source.now) (g.T.Sink.held c.args.sink.now)
    c.new-gathered.result.items (configuration_of c.args.engine.now) c.args.engine.now.past (search rules) c.requires.fresh in
    some-refused c.args.output (configuration_of c.args.engine.now) (c.args.lines.now.number + 1)
    (cut_left c.args.lines.now (g.S.Source.rest c.args.source.now))
    (bytes_left c.args.lines.now (g.S.Source.rest c.args.source.now)) (g.T.Sink.held c.args.sink.now)
    c.args.lines.now (g.S.Source.rest c.args.source.now) (g.S.Source.rest c.args.source.now)
    (g.T.Sink.held c.args.sink.now) _ c.new-gathered.result.items c.reserve.new.self.items
    (part_at c.args.engine.now) _ _ none (search rules) c.stop.ensures.written refl

pub loop-gathered-preserved : goal.loop-gathered-preserved
loop-gathered-preserved g c =
    record {
      so = answered-next c.args.output (configuration_of c.args.engine.now) (c.args.lines.now.number + 1)
          (cut_left c.args.lines.now (g.S.Source.rest c.args.source.now))
          (bytes_left c.args.lines.now (g.S.Source.rest c.args.source.now)) (g.T.Sink.held c.args.sink.now)
          c.loop-gathered.lines c.next_script_line.new.lines (g.S.Source.rest c.loop-gathered.source)
          (g.S.Source.rest c.next_script_line.new.source) (g.T.Sink.held c.flush_before_read.new.sink)
          c.flush_before_read.new.gathered.items
          c.answer_line.new.text.items (part_at c.loop-gathered.engine) (part_at c.answer_line.new.engine)
          (line_of c.in-Ok-Some.kind c.next_script_line.new.event)
          (answered-flushed c.args.output (configuration_of c.args.engine.now) (c.args.lines.now.number + 1)
          (cut_left c.args.lines.now (g.S.Source.rest c.args.source.now))
          (bytes_left c.args.lines.now (g.S.Source.rest c.args.source.now)) (g.T.Sink.held c.args.sink.now)
          c.loop-gathered.lines (g.S.Source.rest c.loop-gathered.source) (g.T.Sink.held c.loop-gathered.sink)
          (g.T.Sink.held c.flush_before_read.new.sink) c.loop-gathered.gathered.items c.flush_before_read.new.gathered.items
          (part_at c.loop-gathered.engine)
          c.loop-gathered.invariant.so c.in_ok-flush_before_read.ensures.bytes)
          (search rules) (search rules) (search rules) (search rules)
          (search rules) c.next_script_line.ensures.ended
          c.in-Ok.ensures.answered;
      ended = λ going. c.loop-gathered.invariant.ended (c.next_script_line.ensures.ended going);
      counted = search rules;
      few = search rules;
      reading = search rules;
      writing = search rules;
    }

pub returns-in_err-flush_before_read-clause-some : goal.returns-in_err-flush_before_read-clause-some
returns-in_err-flush_before_read-clause-some g c =
    some-failed c.args.output (configuration_of c.args.engine.now) (c.args.lines.now.number + 1)
    (cut_left c.args.lines.now (g.S.Source.rest c.args.source.now))
    (bytes_left c.args.lines.now (g.S.Source.rest c.args.source.now)) (g.T.Sink.held c.args.sink.now)
    c.loop-gathered.lines (g.S.Source.rest c.loop-gathered.source) (g.S.Source.rest c.loop-gathered.source)
    (g.T.Sink.held c.loop-gathered.sink) (g.T.Sink.held c.flush_before_read.new.sink) c.loop-gathered.gathered.items
    (part_at c.loop-gathered.engine) c.from_residual.result
    c.loop-gathered.invariant.so c.in_err-flush_before_read.ensures.part (search rules)

pub returns-in-Err-answer_line-clause-some : goal.returns-in-Err-answer_line-clause-some
returns-in-Err-answer_line-clause-some g c =
    let so = answered-flushed c.args.output (configuration_of c.args.engine.now) (c.args.lines.now.number + 1)
    (cut_left c.args.lines.now (g.S.Source.rest c.args.source.now))
    (bytes_left c.args.lines.now (g.S.Source.rest c.args.source.now)) (g.T.Sink.held c.args.sink.now) c.loop-gathered.lines
    (g.S.Source.rest c.loop-gathered.source) (g.T.Sink.held c.loop-gathered.sink) (g.T.Sink.held c.flush_before_read.new.sink)
    c.loop-gathered.gathered.items c.flush_before_read.new.gathered.items (part_at c.loop-gathered.engine) c.loop-gathered.invariant.so
    c.in_ok-flush_before_read.ensures.bytes in
    some-refused c.args.output (configuration_of c.args.engine.now) (c.args.lines.now.number + 1)
    (cut_left c.args.lines.now (g.S.Source.rest c.args.source.now))
    (bytes_left c.args.lines.now (g.S.Source.rest c.args.source.now)) (g.T.Sink.held c.args.sink.now)
    c.loop-gathered.lines (g.S.Source.rest c.loop-gathered.source) (g.S.Source.rest c.next_script_line.new.source)
    (g.T.Sink.held c.flush_before_read.new.sink) _ c.flush_before_read.new.gathered.items c.answer_line.new.text.items
    (part_at c.loop-gathered.engine) _ _ so
    c.in-Err-answer_line.ensures.kept c.stop-in-Err-answer_line.ensures.written refl

pub returns-in_err-flush-in-Ok-None-clause-some : goal.returns-in_err-flush-in-Ok-None-clause-some
returns-in_err-flush-in-Ok-None-clause-some g c =
    let so = answered-flushed c.args.output (configuration_of c.args.engine.now) (c.args.lines.now.number + 1)
    (cut_left c.args.lines.now (g.S.Source.rest c.args.source.now))
    (bytes_left c.args.lines.now (g.S.Source.rest c.args.source.now)) (g.T.Sink.held c.args.sink.now) c.loop-gathered.lines
    (g.S.Source.rest c.loop-gathered.source) (g.T.Sink.held c.loop-gathered.sink) (g.T.Sink.held c.flush_before_read.new.sink)
    c.loop-gathered.gathered.items c.flush_before_read.new.gathered.items (part_at c.loop-gathered.engine) c.loop-gathered.invariant.so
    c.in_ok-flush_before_read.ensures.bytes in
    some-failed c.args.output (configuration_of c.args.engine.now) (c.args.lines.now.number + 1)
    (cut_left c.args.lines.now (g.S.Source.rest c.args.source.now))
    (bytes_left c.args.lines.now (g.S.Source.rest c.args.source.now)) (g.T.Sink.held c.args.sink.now)
    c.loop-gathered.lines (g.S.Source.rest c.loop-gathered.source) (g.S.Source.rest c.next_script_line.new.source)
    (g.T.Sink.held c.flush_before_read.new.sink) _ c.flush_before_read.new.gathered.items (part_at c.loop-gathered.engine) _ so
    (search rules) (search rules)

pub returns-in-Ok-None-clause-all : goal.returns-in-Ok-None-clause-all
returns-in-Ok-None-clause-all g c =
    let so = answered-flushed c.args.output (configuration_of c.args.engine.now) (c.args.lines.now.number + 1)
    (cut_left c.args.lines.now (g.S.Source.rest c.args.source.now))
    (bytes_left c.args.lines.now (g.S.Source.rest c.args.source.now)) (g.T.Sink.held c.args.sink.now) c.loop-gathered.lines
    (g.S.Source.rest c.loop-gathered.source) (g.T.Sink.held c.loop-gathered.sink) (g.T.Sink.held c.flush_before_read.new.sink)
    c.loop-gathered.gathered.items c.flush_before_read.new.gathered.items (part_at c.loop-gathered.engine) c.loop-gathered.invariant.so
    c.in_ok-flush_before_read.ensures.bytes in
    all-so c.args.output (configuration_of c.args.engine.now) (c.args.lines.now.number + 1)
    (cut_left c.args.lines.now (g.S.Source.rest c.args.source.now))
    (bytes_left c.args.lines.now (g.S.Source.rest c.args.source.now)) (g.T.Sink.held c.args.sink.now)
    c.loop-gathered.lines (g.S.Source.rest c.loop-gathered.source) (g.T.Sink.held c.flush_before_read.new.sink) _
    c.flush_before_read.new.gathered.items (part_at c.loop-gathered.engine) _ so (search rules) (search rules)

pub returns-in-Ok-None-clause-some : goal.returns-in-Ok-None-clause-some
returns-in-Ok-None-clause-some g c =
    let so = answered-flushed c.args.output (configuration_of c.args.engine.now) (c.args.lines.now.number + 1)
    (cut_left c.args.lines.now (g.S.Source.rest c.args.source.now))
    (bytes_left c.args.lines.now (g.S.Source.rest c.args.source.now)) (g.T.Sink.held c.args.sink.now) c.loop-gathered.lines
    (g.S.Source.rest c.loop-gathered.source) (g.T.Sink.held c.loop-gathered.sink) (g.T.Sink.held c.flush_before_read.new.sink)
    c.loop-gathered.gathered.items c.flush_before_read.new.gathered.items (part_at c.loop-gathered.engine) c.loop-gathered.invariant.so
    c.in_ok-flush_before_read.ensures.bytes in
    some-written c.args.output (configuration_of c.args.engine.now) (c.args.lines.now.number + 1)
    (cut_left c.args.lines.now (g.S.Source.rest c.args.source.now))
    (bytes_left c.args.lines.now (g.S.Source.rest c.args.source.now)) (g.T.Sink.held c.args.sink.now)
    c.loop-gathered.lines (g.S.Source.rest c.loop-gathered.source) (g.S.Source.rest c.next_script_line.new.source)
    (g.T.Sink.held c.flush_before_read.new.sink) _ c.flush_before_read.new.gathered.items (part_at c.loop-gathered.engine) _ _ so
    (search rules) (λ reading. absurd (cc reading))

pub returns-in-Err-clause-some : goal.returns-in-Err-clause-some
returns-in-Err-clause-some g c =
    let so = answered-flushed c.args.output (configuration_of c.args.engine.now) (c.args.lines.now.number + 1)
    (cut_left c.args.lines.now (g.S.Source.rest c.args.source.now))
    (bytes_left c.args.lines.now (g.S.Source.rest c.args.source.now)) (g.T.Sink.held c.args.sink.now) c.loop-gathered.lines
    (g.S.Source.rest c.loop-gathered.source) (g.T.Sink.held c.loop-gathered.sink) (g.T.Sink.held c.flush_before_read.new.sink)
    c.loop-gathered.gathered.items c.flush_before_read.new.gathered.items (part_at c.loop-gathered.engine) c.loop-gathered.invariant.so
    c.in_ok-flush_before_read.ensures.bytes in
    some-stop c.args.output (configuration_of c.args.engine.now) (c.args.lines.now.number + 1)
    (cut_left c.args.lines.now (g.S.Source.rest c.args.source.now))
    (bytes_left c.args.lines.now (g.S.Source.rest c.args.source.now)) (g.T.Sink.held c.args.sink.now)
    c.loop-gathered.lines (g.S.Source.rest c.loop-gathered.source) (g.S.Source.rest c.next_script_line.new.source)
    (g.T.Sink.held c.flush_before_read.new.sink) _ c.flush_before_read.new.gathered.items (part_at c.loop-gathered.engine) _
    c.in-Err.fault c.stop-in-Err.result so c.stop-in-Err.ensures.written refl
    (λ reading.
    let none = c.next_script_line.ensures.unread (search rules) in
    read-failed (c.args.lines.now.number + 1) (c.loop-gathered.lines.number + 1)
    (bytes_left c.args.lines.now (g.S.Source.rest c.args.source.now)) c.loop-gathered.lines c.next_script_line.new.lines
    (g.S.Source.rest c.loop-gathered.source) (g.S.Source.rest c.next_script_line.new.source) so.answers
    (so.read (c.next_script_line.ensures.ended none.2)) none)

pub returns-in-Err-clause-fault : goal.returns-in-Err-clause-fault
returns-in-Err-clause-fault g c =
    let so = answered-flushed c.args.output (configuration_of c.args.engine.now) (c.args.lines.now.number + 1)
    (cut_left c.args.lines.now (g.S.Source.rest c.args.source.now))
    (bytes_left c.args.lines.now (g.S.Source.rest c.args.source.now)) (g.T.Sink.held c.args.sink.now) c.loop-gathered.lines
    (g.S.Source.rest c.loop-gathered.source) (g.T.Sink.held c.loop-gathered.sink) (g.T.Sink.held c.flush_before_read.new.sink)
    c.loop-gathered.gathered.items c.flush_before_read.new.gathered.items (part_at c.loop-gathered.engine) c.loop-gathered.invariant.so
    c.in_ok-flush_before_read.ensures.bytes in
    fault-stop c.args.output (configuration_of c.args.engine.now) (c.args.lines.now.number + 1)
    (cut_left c.args.lines.now (g.S.Source.rest c.args.source.now))
    (bytes_left c.args.lines.now (g.S.Source.rest c.args.source.now)) (g.T.Sink.held c.args.sink.now)
    c.loop-gathered.lines (g.S.Source.rest c.loop-gathered.source) (g.T.Sink.held c.flush_before_read.new.sink) _
    c.flush_before_read.new.gathered.items (part_at c.loop-gathered.engine) c.in-Err.fault c.stop-in-Err.result so
    c.stop-in-Err.ensures.written (search rules)
