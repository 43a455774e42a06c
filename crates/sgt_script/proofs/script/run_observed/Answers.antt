use Rattle.std.proofs.Common.{rules, ◌≡◌, Err, ◌+◌, refl, sym, ◌∙◌, subst}
use Rattle.sgt_input.specs.Intake.{cut_left}
use Rattle.sgt_input.specs.Ends.{IsExact}
use Rattle.sgt_engine.specs.EngineView.{configuration_of}
use Rattle.sgt_script.proofs.Outcomes.{with-laws}
use Rattle.sgt_script.proofs.FirstLines.{wrote-bad-record, wrote-refused, wrote-opened}
use Rattle.sgt_script.proofs.Beginnings.{stops-nothing, stops-records, stops-opened, fails-opened}
use Rattle.sgt_script.proofs.Opened.{begun-following, bad-following}
use Rattle.sgt_script.proofs.WholeLines.{read-nothing}
use Rattle.sgt_input.specs.declared.fault.Fault.TheVariants as fault
use Rattle.sgt_script.proofs.script.run_observed.Goals as goal

pub returns-in_err-lines-clause-script : goal.returns-in_err-lines-clause-script
returns-in_err-lines-clause-script g c = λ exact.
    let failed : c.from_residual.result ≡ Err c.in_err-lines.field-0.0 = search rules in
    wrote-refused c.args.output c.args.most (g.S.Source.rest c.args.source.now) (g.T.Sink.held c.args.sink.now) c.in_err-lines.field-0.0
    c.from_residual.result (c.in_err-lines.ensures.fault (subst IsExact failed exact)) failed

pub returns-in-Err-clause-script : goal.returns-in-Err-clause-script
returns-in-Err-clause-script g c = λ exact.
    wrote-bad-record c.args.output c.args.most (g.S.Source.rest c.args.source.now) (g.T.Sink.held c.args.sink.now) c.in_ok-lines.lines.line
    c.in-Err.fault (Err c.in-Err.fault)
    (bad-following c.args.most (g.S.Source.rest c.args.source.now) c.in_ok-lines.lines (g.S.Source.rest c.open_input.new.source)
    c.in_ok-lines.opening c.in-Err.fault c.in_ok-lines.ensures.opened (c.in-Err.ensures.fault exact))
    refl

pub returns-clause-script : goal.returns-clause-script
returns-clause-script g c = λ exact.
    with-laws c.outputs_obey_laws.ensures.headline c.outputs_obey_laws.ensures.opened c.outputs_obey_laws.ensures.committed
    c.outputs_obey_laws.ensures.bank c.outputs_obey_laws.ensures.ordered c.outputs_obey_laws.ensures.serializable
    c.outputs_obey_laws.ensures.recoverable c.outputs_obey_laws.ensures.spell c.args.output c.args.most (g.S.Source.rest c.args.source.now)
    (g.T.Sink.held c.args.sink.now) (g.T.Sink.held c.run_opened-ran.new.sink) c.run_opened-ran.result
    (wrote-opened c.args.output c.args.most (configuration_of c.in_ok-engine.engine) (g.S.Source.rest c.args.source.now)
    (g.T.Sink.held c.args.sink.now) (g.T.Sink.held c.run_opened-ran.new.sink) c.in_ok-lines.lines.line
    (c.read_records.new.lines.number + 1) (cut_left c.read_records.new.lines (g.S.Source.rest c.read_records.new.source))
    c.in-Ok.opening c.run_opened-ran.result
    (begun-following c.args.most (g.S.Source.rest c.args.source.now) c.in_ok-lines.lines (g.S.Source.rest c.open_input.new.source)
    (cut_left c.read_records.new.lines (g.S.Source.rest c.read_records.new.source)) c.in_ok-lines.opening c.in-Ok.opening
    c.read_records.new.lines.number c.in_ok-lines.ensures.opened c.in-Ok.ensures.filled c.in-Ok.ensures.limits
    c.in-Ok.ensures.procedures)
    c.in_ok-engine.ensures.configuration (c.run_opened-ran.ensures.output exact))

pub returns-in_err-lines-clause-stops : goal.returns-in_err-lines-clause-stops
returns-in_err-lines-clause-stops g c = λ stop.
    stops-nothing c.args.output c.args.most (g.S.Source.rest c.args.source.now) (g.S.Source.rest c.open_input.new.source)
    (g.T.Sink.held c.args.sink.now) c.from_residual.result
    (λ reading.
    let failed : c.open_input.result ≡ Err fault.Reading = search rules in
    read-nothing (g.S.Source.rest c.args.source.now) (g.S.Source.rest c.open_input.new.source) (c.open_input.ensures.unread failed))

pub returns-in-Err-clause-stops : goal.returns-in-Err-clause-stops
returns-in-Err-clause-stops g c = λ stop.
    stops-records c.args.output c.args.most (g.S.Source.rest c.args.source.now) c.in_ok-lines.lines (g.S.Source.rest c.open_input.new.source)
    (g.S.Source.rest c.read_records.new.source) (g.T.Sink.held c.args.sink.now) c.in_ok-lines.opening
    (Err c.in-Err.fault) c.in_ok-lines.ensures.opened
    (λ reading.
    let failed : c.read_records.result ≡ Err fault.Reading = search rules in
    c.read_records.ensures.unread failed)

pub returns-in_err-engine-clause-stops : goal.returns-in_err-engine-clause-stops
returns-in_err-engine-clause-stops g c = λ stop.
    let failed : c.from_residual-in_err-engine.result ≡ Err fault.NoMemory = search rules in
    stops-nothing c.args.output c.args.most (g.S.Source.rest c.args.source.now) (g.S.Source.rest c.read_records.new.source)
    (g.T.Sink.held c.args.sink.now) c.from_residual-in_err-engine.result (λ reading. absurd (cc (sym failed ∙ reading)))

pub returns-clause-stops : goal.returns-clause-stops
returns-clause-stops g c = λ stop.
    stops-opened c.args.output c.args.most c.in_ok-lines.lines c.read_records.new.lines (configuration_of c.in_ok-engine.engine)
    (g.S.Source.rest c.args.source.now) (g.S.Source.rest c.open_input.new.source) (g.S.Source.rest c.read_records.new.source)
    (g.S.Source.rest c.run_opened-ran.new.source) (g.T.Sink.held c.args.sink.now) (g.T.Sink.held c.run_opened-ran.new.sink)
    (cut_left c.read_records.new.lines (g.S.Source.rest c.read_records.new.source)) c.in_ok-lines.opening c.in-Ok.opening
    c.run_opened-ran.result c.in_ok-lines.ensures.opened
    (begun-following c.args.most (g.S.Source.rest c.args.source.now) c.in_ok-lines.lines (g.S.Source.rest c.open_input.new.source)
    (cut_left c.read_records.new.lines (g.S.Source.rest c.read_records.new.source)) c.in_ok-lines.opening c.in-Ok.opening
    c.read_records.new.lines.number c.in_ok-lines.ensures.opened c.in-Ok.ensures.filled c.in-Ok.ensures.limits
    c.in-Ok.ensures.procedures)
    c.in_ok-engine.ensures.configuration (λ still. (c.read_records.ensures.ended still, c.in-Ok.ensures.passed still))
    c.run_opened-ran.ensures.going (c.run_opened-ran.ensures.stops stop)

pub returns-clause-part : goal.returns-clause-part
returns-clause-part g c = λ failed.
    fails-opened c.args.output c.args.most (configuration_of c.in_ok-engine.engine) (g.S.Source.rest c.args.source.now)
    (g.T.Sink.held c.args.sink.now) (g.T.Sink.held c.run_opened-ran.new.sink) c.in_ok-lines.lines.line
    (c.read_records.new.lines.number + 1) (cut_left c.read_records.new.lines (g.S.Source.rest c.read_records.new.source))
    c.in-Ok.opening
    (begun-following c.args.most (g.S.Source.rest c.args.source.now) c.in_ok-lines.lines (g.S.Source.rest c.open_input.new.source)
    (cut_left c.read_records.new.lines (g.S.Source.rest c.read_records.new.source)) c.in_ok-lines.opening c.in-Ok.opening
    c.read_records.new.lines.number c.in_ok-lines.ensures.opened c.in-Ok.ensures.filled c.in-Ok.ensures.limits
    c.in-Ok.ensures.procedures)
    c.in_ok-engine.ensures.configuration (c.run_opened-ran.ensures.part failed)
