use Rattle.std.proofs.Common.{rules, ◌≡◌, ◌≢◌, ◌+◌, refl, sym, ◌∙◌, Err}
use Rattle.sgt_input.specs.Intake.{bytes_left, cut_left}
use Rattle.sgt_input.specs.declared.fault.Fault.TheVariants as fault
use Rattle.sgt_engine.specs.EngineView.{configuration_of}
use Rattle.sgt_script.specs.Parts.{part_at}
use Rattle.sgt_script.proofs.Answers.{output-fault, output-well, exact-flush}
use Rattle.sgt_script.proofs.Beginnings.{stops-from, fails-from, fails-last, same-fault, stop-well, on-failed}
use Rattle.sgt_script.proofs.script.run_opened.Goals as goal

pub returns-in_err-answer_lines-clause-output : goal.returns-in_err-answer_lines-clause-output
returns-in_err-answer_lines-clause-output g c = λ exact.
    output-fault c.args.output (configuration_of c.args.engine.now) (c.args.lines.now.number + 1)
    (cut_left c.args.lines.now (g.S.Source.rest c.args.source.now))
    c.from_residual.result c.in_err-answer_lines.field-0.0 (g.T.Sink.held c.args.sink.now) (g.T.Sink.held c.answer_lines.new.sink)
    (search rules) (search rules) exact

pub returns-clause-output : goal.returns-clause-output
returns-clause-output g c = λ exact.
    output-well c.args.output (configuration_of c.args.engine.now) (c.args.lines.now.number + 1)
    (cut_left c.args.lines.now (g.S.Source.rest c.args.source.now))
    (part_at c.answer_lines.new.engine) c.flush.result c.append_last.new.text.items
    (g.T.Sink.held c.args.sink.now) (g.T.Sink.held c.answer_lines.new.sink) (g.T.Sink.held c.flush.new.sink)
    (exact-flush c.flush.result c.flush.ensures.err exact) c.in_ok-answer_lines.ensures.all
    c.in_ok-append_last.ensures c.flush.ensures.bytes

pub returns-in_err-answer_lines-clause-stops : goal.returns-in_err-answer_lines-clause-stops
returns-in_err-answer_lines-clause-stops g c = λ stop.
    stops-from c.args.output c.some_reply_is_legal.ensures c.histories_go_on.ensures.rows
    (configuration_of c.args.engine.now) c.args.engine.now.opening
    (c.args.lines.now.number + 1) (cut_left c.args.lines.now (g.S.Source.rest c.args.source.now))
    (bytes_left c.args.lines.now (g.S.Source.rest c.args.source.now)) (g.S.Source.rest c.answer_lines.new.source)
    (g.T.Sink.held c.args.sink.now) (g.T.Sink.held c.answer_lines.new.sink)
    (c.answer_lines.result ≢ Err fault.Writing) (c.answer_lines.result ≡ Err fault.Reading) c.from_residual.result refl
    (stop-well c.answer_lines.result c.from_residual.result c.in_err-answer_lines.field-0.0 c.in_err-answer_lines.was (search rules) stop)
    (same-fault c.answer_lines.result c.from_residual.result c.in_err-answer_lines.field-0.0 fault.Reading c.in_err-answer_lines.was
    (search rules)) c.answer_lines.ensures.some

pub returns-in_err-answer_lines-clause-part : goal.returns-in_err-answer_lines-clause-part
returns-in_err-answer_lines-clause-part g c = λ failed.
    fails-from c.args.output c.some_reply_is_legal.ensures c.histories_go_on.ensures.rows
    (configuration_of c.args.engine.now) c.args.engine.now.opening
    (c.args.lines.now.number + 1) (cut_left c.args.lines.now (g.S.Source.rest c.args.source.now))
    (bytes_left c.args.lines.now (g.S.Source.rest c.args.source.now)) (g.S.Source.rest c.answer_lines.new.source)
    (g.T.Sink.held c.args.sink.now) (g.T.Sink.held c.answer_lines.new.sink)
    (c.answer_lines.result ≢ Err fault.Writing) (c.answer_lines.result ≡ Err fault.Reading) refl c.answer_lines.ensures.some

pub returns-in_err-append_last-clause-stops : goal.returns-in_err-append_last-clause-stops
returns-in_err-append_last-clause-stops g c = λ stop.
    stops-from c.args.output c.some_reply_is_legal.ensures c.histories_go_on.ensures.rows
    (configuration_of c.args.engine.now) c.args.engine.now.opening
    (c.args.lines.now.number + 1) (cut_left c.args.lines.now (g.S.Source.rest c.args.source.now))
    (bytes_left c.args.lines.now (g.S.Source.rest c.args.source.now)) (g.S.Source.rest c.answer_lines.new.source)
    (g.T.Sink.held c.args.sink.now) (g.T.Sink.held c.answer_lines.new.sink)
    (c.answer_lines.result ≢ Err fault.Writing) (c.answer_lines.result ≡ Err fault.Reading) c.from_residual-in_err-append_last.result refl
    (λ is. absurd (cc (sym c.in_ok-answer_lines.was ∙ is))) (λ reading. search rules) c.answer_lines.ensures.some

pub returns-clause-part : goal.returns-clause-part
returns-clause-part g c = λ failed.
    fails-last c.args.output (configuration_of c.args.engine.now) (c.args.lines.now.number + 1)
    (cut_left c.args.lines.now (g.S.Source.rest c.args.source.now))
    (part_at c.answer_lines.new.engine) c.append_last.new.text.items
    (g.T.Sink.held c.args.sink.now) (g.T.Sink.held c.answer_lines.new.sink) (g.T.Sink.held c.flush.new.sink)
    c.in_ok-answer_lines.ensures.all
    c.in_ok-append_last.ensures
    (on-failed c.flush.result _ failed c.flush.ensures.part)
