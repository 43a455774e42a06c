use Rattle.std.proofs.Common.{rules, ◌≡◌, ◌+◌, Err, refl, subst, sym}
use Rattle.std.specs.Prelude.{IfErr}
use Rattle.sgt_input.specs.Lines.{AtEnd}
use Rattle.sgt_input.specs.Intake.{cut_left}
use Rattle.sgt_input.specs.Ends.{IsOfInput}
use Rattle.sgt_bank.proofs.Beginnings.{Fails, fails-empty, fails-refused, fails-record, fails-following, fails-long, asks-all}
use Rattle.sgt_input.proofs.Begun.{begun, bad-record}
use Rattle.sgt_bank.proofs.input.read_input.Goals as goal

pub returns-in_err-next_line-clause-fault : goal.returns-in_err-next_line-clause-fault
returns-in_err-next_line-clause-fault g c =
    let failed : c.from_residual-in_err-next_line.result ≡ Err c.in_err-next_line.field-0.0 = search rules in
    subst (λ r. IfErr r (λ f. IsOfInput f → Fails c.args.workers c.args.most (g.S.Source.rest c.args.source.now) f)) (sym failed)
    (fails-long c.args.workers c.args.most c.in_ok-lines.lines
    (g.S.Source.rest c.args.source.now) _ c.in_ok-lines.ensures c.in_err-next_line.ensures.fault)

pub returns-then-not-branch-clause-fault : goal.returns-then-not-branch-clause-fault
returns-then-not-branch-clause-fault g c = λ exact.
    fails-empty c.args.workers c.args.most c.in_ok-lines.lines (g.S.Source.rest c.args.source.now) AtEnd _ c.in_ok-lines.ensures (search rules) refl

pub returns-in_err-opening-clause-fault : goal.returns-in_err-opening-clause-fault
returns-in_err-opening-clause-fault g c =
    let failed : c.from_residual-in_err-opening.result ≡ Err c.in_err-opening.field-0.0 = search rules in
    subst (λ r. IfErr r (λ f. IsOfInput f → Fails c.args.workers c.args.most (g.S.Source.rest c.args.source.now) f)) (sym failed)
    (λ exact.
    let explained = c.in_err-opening.ensures.fault exact in
    fails-refused c.args.workers c.args.most c.in_ok-lines.lines (g.S.Source.rest c.args.source.now) c.next_line.new.self.line
    (cut_left c.next_line.new.self (g.S.Source.rest c.next_line.new.source))
    explained.0 _ c.in_ok-lines.ensures (search rules) explained.1 explained.2 explained.3)

pub returns-in-Err-clause-fault : goal.returns-in-Err-clause-fault
returns-in-Err-clause-fault g c = λ exact.
    fails-record c.args.workers c.args.most (g.S.Source.rest c.args.source.now) c.next_line.new.self.line _
    (bad-record c.args.workers c.args.most c.in_ok-lines.lines (g.S.Source.rest c.args.source.now) c.next_line.new.self.line
    (cut_left c.next_line.new.self (g.S.Source.rest c.next_line.new.source)) c.in_ok-opening.opening c.next_line.new.self.number
    _ c.in_ok-lines.ensures (search rules) c.in_ok-opening.ensures.opening (search rules) (c.in-Err.ensures.fault exact))

pub returns-clause-fault : goal.returns-clause-fault
returns-clause-fault g c = λ exact.
    fails-following c.args.workers c.args.most (g.S.Source.rest c.args.source.now) c.next_line.new.self.line
    (c.read_records.new.lines.number + 1) (cut_left c.read_records.new.lines (g.S.Source.rest c.read_records.new.source))
    c.in-Ok.opening _
    (begun c.args.workers c.args.most c.in_ok-lines.lines (g.S.Source.rest c.args.source.now) c.next_line.new.self.line
    (cut_left c.next_line.new.self (g.S.Source.rest c.next_line.new.source))
    (cut_left c.read_records.new.lines (g.S.Source.rest c.read_records.new.source)) c.in_ok-opening.opening c.in-Ok.opening
    c.next_line.new.self.number c.read_records.new.lines.number c.in_ok-lines.ensures (search rules) c.in_ok-opening.ensures.opening
    (search rules) c.in-Ok.ensures.filled c.in-Ok.ensures.limits c.in-Ok.ensures.procedures)
    (c.in-Err-read_jobs.ensures.fault exact)

pub returns-in-Ok-read_jobs-clause-input : goal.returns-in-Ok-read_jobs-clause-input
returns-in-Ok-read_jobs-clause-input g c =
    asks-all c.args.workers c.args.most (g.S.Source.rest c.args.source.now) c.next_line.new.self.line
    (c.read_records.new.lines.number + 1) (cut_left c.read_records.new.lines (g.S.Source.rest c.read_records.new.source))
    c.in-Ok.opening c.in-Ok-read_jobs.jobs.items
    (begun c.args.workers c.args.most c.in_ok-lines.lines (g.S.Source.rest c.args.source.now) c.next_line.new.self.line
    (cut_left c.next_line.new.self (g.S.Source.rest c.next_line.new.source))
    (cut_left c.read_records.new.lines (g.S.Source.rest c.read_records.new.source)) c.in_ok-opening.opening c.in-Ok.opening
    c.next_line.new.self.number c.read_records.new.lines.number c.in_ok-lines.ensures (search rules) c.in_ok-opening.ensures.opening
    (search rules) c.in-Ok.ensures.filled c.in-Ok.ensures.limits c.in-Ok.ensures.procedures)
    c.in-Ok-read_jobs.ensures.jobs
