use Rattle.std.proofs.Common.{rules, ◌≤◌, length, ap, sym, subst, ◌∙◌, append_assoc, ◌++◌, pos}
use Rattle.std.specs.Prelude.{codes}
use Rattle.std.specs.Fmt.{signed_decimal}
use Rattle.std.proofs.lemmas.List.{append-nil, take_all}
use Rattle.sgt_format.specs.Decimals.{each_item}
use Rattle.sgt_format.proofs.Begins.{begins_grown}
use Rattle.sgt_format.proofs.Pieces.{one_more}
use Rattle.sgt_format.proofs.decimal_text.append_each_answer.Goals as goal

pub loop-answer-preserved : goal.loop-answer-preserved
loop-answer-preserved c =
    one_more (λ answer. codes " " ++ signed_decimal answer) c.args.line.now.items c.loop-answer.line.items c.append_answer.new.lines.items _
    c.args.answers.now c.as_slice-answer-items.result.now c.loop-answer.answer-index (pos 0)
    c.as_slice-answer-items.ensures c.loop-answer-test.true c.loop-answer.invariant
    (c.in_ok-append_answer.ensures.ok ∙ append_assoc c.loop-answer.line.items (codes " ") (signed_decimal _))
    (ap (λ answer. codes " " ++ signed_decimal answer) (search rules))

pub loop-answer-init : goal.loop-answer-init
loop-answer-init c = sym (append-nil c.args.line.now.items)

pub returns-in_err-append_answer-clause-err : goal.returns-in_err-append_answer-clause-err
returns-in_err-append_answer-clause-err c = begins_grown c.from_residual.result _ c.args.line.now.items _ c.loop-answer.line.items _
    (search rules) c.loop-answer.invariant c.in_err-append_answer.ensures.err

pub returns-clause-ok : goal.returns-clause-ok
returns-clause-ok c = c.loop-answer.invariant ∙ ap (λ l. c.args.line.now.items ++ each_item signed_decimal l)
    (take_all c.loop-answer.answer-index c.args.answers.now
    (subst (λ l. length l ≤ c.loop-answer.answer-index) c.as_slice-answer-items.ensures c.loop-answer-test.false))
