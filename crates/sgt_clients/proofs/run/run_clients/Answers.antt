use Rattle.std.proofs.Common.{rules, ◌≡◌, ◌∙◌, Err, ap, sym, subst}
use Rattle.std.specs.Prelude.{IfErr, IfSome}
use Rattle.sgt_check.specs.declared.fault.CheckFault.TheVariants.{Reading, Writing}
use Rattle.sgt_clients.specs.declared.fault.ClientsFault.TheVariants as fault
use Rattle.sgt_clients.specs.Checks.{IsChecked, IsFaultOf}
use Rattle.sgt_clients.specs.Faults.{IsOwn}
use Rattle.sgt_clients.proofs.Faulty.{input_fault, own_fault, own_not}
use Rattle.sgt_clients.proofs.Reported.{is_reported, is_begun}
use Rattle.sgt_clients.proofs.run.run_clients.Goals as goal

pub returns-in_err-input-clause-fault : goal.returns-in_err-input-clause-fault
returns-in_err-input-clause-fault g c =
    let is : c.from_residual.result ≡ Err (fault.Check c.in_err-input.field-0.0) = search rules in
    subst (λ r. IfErr r (λ f. IfSome (g.S.Source.rest c.args.source.now) (λ input. IsFaultOf input f))) (sym is)
    (input_fault (g.S.Source.rest c.args.source.now) c.in_err-input.field-0.0
    (λ long. c.read_input.ensures.long (c.in_err-input.was ∙ ap Err long)))

pub returns-clause-checked : goal.returns-clause-checked
returns-clause-checked g c =
    is_reported (IsChecked c.args.question c.args.output) (g.S.Source.rest c.args.source.now) (g.T.Sink.held c.args.sink.now)
    (g.T.Sink.held c.write_all.new.sink)
    c.in_ok-input.input.items c.in_ok-checked.checked.text.items c.in_ok-checked.checked.answer
    c.in_ok-input.ensures.bytes
    (search rules)
    (search rules)

pub returns-in_default-clause-part : goal.returns-in_default-clause-part
returns-in_default-clause-part g c = λ _.
    is_begun (IsChecked c.args.question c.args.output) (g.S.Source.rest c.args.source.now) (g.T.Sink.held c.args.sink.now)
    (g.T.Sink.held c.write_all.new.sink)
    c.in_ok-input.input.items c.in_ok-checked.checked.text.items c.in_ok-checked.checked.answer
    c.in_ok-input.ensures.bytes
    (search rules)
    (search rules)

pub returns-in_err-checked-clause-fault : goal.returns-in_err-checked-clause-fault
returns-in_err-checked-clause-fault g c =
    let is : c.from_residual-in_err-checked.result ≡ Err c.in_err-checked.field-0.0 = search rules in
    let own : IsOwn c.in_err-checked.field-0.0 = search rules in
    subst (λ r. IfErr r (λ f. IfSome (g.S.Source.rest c.args.source.now) (λ input. IsFaultOf input f))) (sym is)
    (own_fault (g.S.Source.rest c.args.source.now) c.in_err-checked.field-0.0 own)

pub returns-in_err-checked-clause-part : goal.returns-in_err-checked-clause-part
returns-in_err-checked-clause-part g c = λ writing.
    let is : c.from_residual-in_err-checked.result ≡ Err c.in_err-checked.field-0.0 = search rules in
    let own : IsOwn c.in_err-checked.field-0.0 = search rules in
    let never = own_not c.from_residual-in_err-checked.result c.in_err-checked.field-0.0 Writing own is writing in
    absurd (cc)

pub returns-in_err-checked-clause-read_failed : goal.returns-in_err-checked-clause-read_failed
returns-in_err-checked-clause-read_failed g c = λ reading.
    let is : c.from_residual-in_err-checked.result ≡ Err c.in_err-checked.field-0.0 = search rules in
    let own : IsOwn c.in_err-checked.field-0.0 = search rules in
    let never = own_not c.from_residual-in_err-checked.result c.in_err-checked.field-0.0 Reading own is reading in
    absurd (cc)

pub returns-in_err-checked-clause-write_failed : goal.returns-in_err-checked-clause-write_failed
returns-in_err-checked-clause-write_failed g c = λ writing.
    let is : c.from_residual-in_err-checked.result ≡ Err c.in_err-checked.field-0.0 = search rules in
    let own : IsOwn c.in_err-checked.field-0.0 = search rules in
    let never = own_not c.from_residual-in_err-checked.result c.in_err-checked.field-0.0 Writing own is writing in
    absurd (cc)
