use Rattle.std.proofs.Common.{rules, ◌≤◌, take, length, ap, sym, subst, ◌∙◌, append_assoc, ◌++◌}
use Rattle.std.specs.Prelude.{codes}
use Rattle.std.specs.Fmt.{decimal}
use Rattle.std.proofs.lemmas.List.{append-nil, take_all}
use Rattle.sgt_format.specs.Decimals.{each_item}
use Rattle.sgt_format.proofs.Begins.{begins_grown}
use Rattle.sgt_format.proofs.Pieces.{one_more, two_more}
use Rattle.sgt_format.proofs.decimal_text.append_tids.Goals as goal

pub loop-tid-preserved : goal.loop-tid-preserved
loop-tid-preserved c =
    one_more (λ tid. codes " " ++ decimal tid) c.args.line.now.items c.loop-tid.line.items c.append_number.new.line.items
    (codes " " ++ decimal c.tid.inside.0) c.args.tids.now c.as_slice-tid-items.result.now c.loop-tid.tid-index c.tid-item.result
    c.as_slice-tid-items.ensures c.loop-tid-test.true c.loop-tid.invariant
    (two_more c.loop-tid.line.items c.extend_from_slice.new.self.items c.append_number.new.line.items (codes " ")
    (decimal c.tid.inside.0) c.in_ok-extend_from_slice.ensures.items c.in_ok-append_number.ensures.ok)
    (ap (λ tid. codes " " ++ decimal tid) (search rules))

pub loop-tid-init : goal.loop-tid-init
loop-tid-init c = sym (append-nil c.args.line.now.items)

pub returns-in_err-extend_from_slice-clause-err : goal.returns-in_err-extend_from_slice-clause-err
returns-in_err-extend_from_slice-clause-err c = begins_grown c.from_residual.result _ c.args.line.now.items _ c.loop-tid.line.items _
    (search rules) c.loop-tid.invariant c.in_err-extend_from_slice.ensures.items

pub returns-in_err-append_number-clause-err : goal.returns-in_err-append_number-clause-err
returns-in_err-append_number-clause-err c =
    let before = each_item decimal (take c.loop-tid.tid-index c.args.tids.now) in
    begins_grown c.from_residual-in_err-append_number.result _ c.args.line.now.items (before ++ codes " ")
    c.extend_from_slice.new.self.items _ (search rules) (c.in_ok-extend_from_slice.ensures.items
    ∙ ap (λ l. l ++ codes " ") c.loop-tid.invariant ∙ append_assoc c.args.line.now.items before (codes " "))
    c.in_err-append_number.ensures.err

pub returns-clause-ok : goal.returns-clause-ok
returns-clause-ok c = c.loop-tid.invariant ∙ ap (λ l. c.args.line.now.items ++ each_item decimal l)
    (take_all c.loop-tid.tid-index c.args.tids.now
    (subst (λ l. length l ≤ c.loop-tid.tid-index) c.as_slice-tid-items.ensures c.loop-tid-test.false))
