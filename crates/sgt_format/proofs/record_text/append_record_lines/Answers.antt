use Rattle.std.proofs.Common.{rules, refl, ap, sym, ◌∙◌, ◌++◌}
use Rattle.std.proofs.lemmas.List.{append-nil, take_all}
use Rattle.sgt_format.specs.RecordText.{record_lines, record_line}
use Rattle.sgt_format.proofs.Begins.{begins_grown}
use Rattle.sgt_format.proofs.Pieces.{one_more}
use Rattle.sgt_format.proofs.record_text.append_record_lines.Goals as goal

pub loop-key-preserved : goal.loop-key-preserved
loop-key-preserved c =
    one_more record_line c.args.text.now.items c.loop-key.text.items c.append_record_line.new.text.items _ c.args.rows.now c.args.rows.now
    c.loop-key.key-index c.loop-key-item.result
    refl c.loop-key-test.true c.loop-key.invariant c.in_ok-append_record_line.ensures.ok (search rules)

pub loop-key-init : goal.loop-key-init
loop-key-init c = sym (append-nil c.args.text.now.items)

pub returns-in_err-append_record_line-clause-err : goal.returns-in_err-append_record_line-clause-err
returns-in_err-append_record_line-clause-err c = begins_grown c.from_residual.result _ c.args.text.now.items _ c.loop-key.text.items _
    (search rules) c.loop-key.invariant c.in_err-append_record_line.ensures.err

pub returns-clause-ok : goal.returns-clause-ok
returns-clause-ok c = c.loop-key.invariant ∙ ap (λ l. c.args.text.now.items ++ record_lines l)
    (take_all c.loop-key.key-index c.args.rows.now c.loop-key-test.false)
