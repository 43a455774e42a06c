use Rattle.std.proofs.Common.{rules, ◌≡◌, Err, refl, subst, sym}
use Rattle.std.specs.Prelude.{IfErr}
use Rattle.sgt_input.specs.Lines.{AtEnd}
use Rattle.sgt_input.specs.Intake.{cut_left}
use Rattle.sgt_input.specs.Ends.{IsOfInput}
use Rattle.sgt_script.specs.Opened.{IsRefused}
use Rattle.sgt_input.specs.declared.fault.Fault.TheVariants as fault
use Rattle.sgt_script.proofs.Opened.{has-opened, reads-no-line, refused-empty, refused-line, refused-long}
use Rattle.sgt_script.proofs.script.open_input.Goals as goal

pub returns-in_err-next_line-clause-fault : goal.returns-in_err-next_line-clause-fault
returns-in_err-next_line-clause-fault g c =
    let failed : c.from_residual-in_err-next_line.result ≡ Err c.in_err-next_line.field-0.0 = search rules in
    subst (λ r. IfErr r (λ f. IsOfInput f → IsRefused 1 c.args.most (g.S.Source.rest c.args.source.now) f)) (sym failed)
    (refused-long 1 c.args.most c.in_ok-lines.lines (g.S.Source.rest c.args.source.now) _ c.in_ok-lines.ensures
    c.in_err-next_line.ensures.fault)

pub returns-in_err-next_line-clause-unread : goal.returns-in_err-next_line-clause-unread
returns-in_err-next_line-clause-unread g c = λ reading.
    let failed : c.next_line.result ≡ Err fault.Reading = search rules in
    reads-no-line c.args.most c.in_ok-lines.lines c.next_line.new.self (g.S.Source.rest c.args.source.now) (g.S.Source.rest c.next_line.new.source)
    c.in_ok-lines.ensures (c.next_line.ensures.kept failed) (c.next_line.ensures.no_line failed) (c.next_line.ensures.going failed)

pub returns-then-not-branch-clause-fault : goal.returns-then-not-branch-clause-fault
returns-then-not-branch-clause-fault g c = λ exact.
    refused-empty 1 c.args.most c.in_ok-lines.lines (g.S.Source.rest c.args.source.now) AtEnd _ c.in_ok-lines.ensures (search rules) refl

pub returns-in_err-opening-clause-fault : goal.returns-in_err-opening-clause-fault
returns-in_err-opening-clause-fault g c =
    let failed : c.from_residual-in_err-opening.result ≡ Err c.in_err-opening.field-0.0 = search rules in
    subst (λ r. IfErr r (λ f. IsOfInput f → IsRefused 1 c.args.most (g.S.Source.rest c.args.source.now) f)) (sym failed)
    (λ exact. refused-line 1 c.args.most c.in_ok-lines.lines (g.S.Source.rest c.args.source.now) c.next_line.new.self.line
    (cut_left c.next_line.new.self (g.S.Source.rest c.next_line.new.source)) _ c.in_ok-lines.ensures (search rules)
    (c.in_err-opening.ensures.fault exact))

pub returns-clause-opened : goal.returns-clause-opened
returns-clause-opened g c =
    has-opened 1 c.args.most c.in_ok-lines.lines c.next_line.new.self (g.S.Source.rest c.args.source.now)
    (g.S.Source.rest c.next_line.new.source) c.in_ok-opening.opening c.in_ok-lines.ensures c.in_ok-opening.ensures.opening
    (search rules) (search rules) (search rules) (search rules)
