use Rattle.std.proofs.Common.{◌∙◌, sym, subst}
use Rattle.std.specs.Prelude.{IfOk}
use Rattle.sgt_clients.specs.Checks.{IsJudged}
use Rattle.sgt_clients.proofs.Inputs.{of_edn, of_json}
use Rattle.sgt_clients.proofs.run.check_text.Goals as goal

pub returns-then-not-is_edn-clause-checked : goal.returns-then-not-is_edn-clause-checked
returns-then-not-is_edn-clause-checked c =
    subst (λ input. IfOk c.check_json.result (λ r. IsJudged c.args.question c.args.output input r.text.items r.answer))
    (of_json c.args.text.now (sym c.is_edn.ensures ∙ c.if-not-is_edn.true)) c.check_json.ensures.checked

pub returns-clause-checked : goal.returns-clause-checked
returns-clause-checked c =
    subst (λ input. IfOk c.check_json-2.result (λ r. IsJudged c.args.question c.args.output input r.text.items r.answer))
    (of_edn c.args.text.now c.as_slice.result.now (sym c.is_edn.ensures ∙ c.if-not-is_edn.false)
    (c.as_slice.ensures.value ∙ c.in_ok-json.ensures))
    c.check_json-2.ensures.checked
