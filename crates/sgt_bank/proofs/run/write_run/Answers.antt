use Rattle.std.proofs.Common.{rules}
use Rattle.sgt_bank.proofs.RunLaws.{writes-all, writes-part}
use Rattle.sgt_bank.proofs.run.write_run.Goals as goal

pub returns-clause-output : goal.returns-clause-output
returns-clause-output g c =
    writes-all c.legal_are_commit_ordered.ensures c.legal_are_serializable.ensures c.legal_are_recoverable.ensures
    c.transcripts_spell_textbooks.ensures c.args.options.output c.args.options.workers c.args.options.tries c.args.options.most (g.S.Source.rest c.args.source.now)
    (g.T.Sink.held c.args.sink.now) (g.T.Sink.held c.write_text.new.sink) _ c.in_ok-report.report.history.entries
    c.in_ok-report.report.outcomes.items c.in_ok-report.report.database c.in_ok-text.text.items c.in_ok-report.ensures.run
    c.in_ok-text.ensures (search rules)

pub returns-in_err-write_text-clause-part : goal.returns-in_err-write_text-clause-part
returns-in_err-write_text-clause-part g c = λ failed.
    writes-part c.legal_are_commit_ordered.ensures c.legal_are_serializable.ensures c.legal_are_recoverable.ensures
    c.transcripts_spell_textbooks.ensures c.args.options.output c.args.options.workers c.args.options.tries c.args.options.most (g.S.Source.rest c.args.source.now)
    (g.T.Sink.held c.args.sink.now) (g.T.Sink.held c.write_text.new.sink) _ c.in_ok-report.report.history.entries
    c.in_ok-report.report.outcomes.items c.in_ok-report.report.database c.in_ok-text.text.items c.in_ok-report.ensures.run
    c.in_ok-text.ensures (search rules)
