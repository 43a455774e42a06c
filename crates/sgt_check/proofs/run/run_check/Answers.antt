use Rattle.std.proofs.Common.{rules, ◌≡◌, ◌∙◌, Err, ap, sym, subst}
use Rattle.std.specs.Prelude.{IfErr, IfSome}
use Rattle.sgt_check.specs.Checks.{IsChecked, IsFaultOf}
use Rattle.sgt_check.proofs.Whole.{is_reported, is_begun, input_fault, text_fault}
use Rattle.sgt_check.proofs.run.run_check.Goals as goal

pub returns-in_err-text-clause-fault : goal.returns-in_err-text-clause-fault
returns-in_err-text-clause-fault g c =
    let is : c.from_residual.result ≡ Err c.in_err-text.field-0.0 = search rules in
    subst (λ r. IfErr r (λ f. IfSome (g.S.Source.rest c.args.source.now) (λ input. IsFaultOf input f))) (sym is)
    (input_fault (g.S.Source.rest c.args.source.now) c.in_err-text.field-0.0
    (λ long. c.read_input.ensures.long (c.in_err-text.was ∙ ap Err long))
    (λ n same. c.read_input.ensures.no_notation n (c.in_err-text.was ∙ ap Err same))
    (λ same. c.read_input.ensures.no_operations (c.in_err-text.was ∙ ap Err same)))

pub returns-clause-checked : goal.returns-clause-checked
returns-clause-checked g c =
    is_reported (IsChecked c.args.output) (g.S.Source.rest c.args.source.now) (g.T.Sink.held c.args.sink.now)
    (g.T.Sink.held c.write_all.new.sink)
    c.in_ok-text.text.items c.in_ok-checked.checked.lines.items c.in_ok-checked.checked.verdict
    c.in_ok-text.ensures.bytes
    (search rules)
    (search rules)

pub returns-in_default-clause-part : goal.returns-in_default-clause-part
returns-in_default-clause-part g c = λ _.
    is_begun (IsChecked c.args.output) (g.S.Source.rest c.args.source.now) (g.T.Sink.held c.args.sink.now)
    (g.T.Sink.held c.write_all.new.sink)
    c.in_ok-text.text.items c.in_ok-checked.checked.lines.items c.in_ok-checked.checked.verdict
    c.in_ok-text.ensures.bytes
    (search rules)
    (search rules)

pub returns-in_err-checked-clause-fault : goal.returns-in_err-checked-clause-fault
returns-in_err-checked-clause-fault g c =
    let is : c.from_residual-in_err-checked.result ≡ Err c.in_err-checked.field-0.0 = search rules in
    subst (λ r. IfErr r (λ f. IfSome (g.S.Source.rest c.args.source.now) (λ input. IsFaultOf input f))) (sym is)
    (text_fault (g.S.Source.rest c.args.source.now) c.in_ok-text.text.items c.in_err-checked.field-0.0 c.in_ok-text.ensures.bytes
    (search rules))
