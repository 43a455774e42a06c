use Rattle.std.proofs.Common.{rules, refl, ap, sym, Ok, ◌∙◌}
use Rattle.sgt_proc_json.proofs.read_expr.+expression.Goals as goal
use Rattle.sgt_proc_json.proofs.read_expr.+expression.Goals.{read_row-in_default-via-then-items-lt2, read_row-in_default-via-else-items-lt2+else-items-lt3+else-items-lt4}
use Rattle.sgt_proc_json.proofs.Lengths.{reported_here, no_expression, two_are, operands_are}
use Rattle.sgt_proc_json.proofs.InTurn.{handed_on, first_reports, second_reports, both_read}
use Rattle.sgt_proc_json.specs.Operations.{operated}

pub read_row-returns-in_default-clause-err : goal.read_row-returns-in_default-clause-err
read_row-returns-in_default-clause-err t c =
    elim c.in_default.branch [
      | read_row-in_default-via-then-items-lt2 w ↦ reported_here _ _ c.here-in_default.ensures
          (no_expression c.args.items.now (search rules) (search rules))
      | read_row-in_default-via-else-items-lt2+else-items-lt3+else-items-lt4 w ↦
          reported_here _ _ c.here-in_default.ensures (no_expression c.args.items.now (search rules) (search rules))
    ]

pub read_row-returns-in-len2-clause-ok : goal.read_row-returns-in-len2-clause-ok
read_row-returns-in-len2-clause-ok t c =
    rw (two_are c.args.items.now _ _ c.in-len2.len_at_least c.in-len2.len_below c.word-item.is c.n-item.is) c.arg_or_reg.ensures.ok

pub read_row-returns-in-len2-clause-err : goal.read_row-returns-in-len2-clause-err
read_row-returns-in-len2-clause-err t c =
    rw (two_are c.args.items.now _ _ c.in-len2.len_at_least c.in-len2.len_below c.word-item.is c.n-item.is) c.arg_or_reg.ensures.err

pub read_row-returns-in_err-left-in-Some-clause-err : goal.read_row-returns-in_err-left-in-Some-clause-err
read_row-returns-in_err-left-in-Some-clause-err t c =
    let row = operands_are c.args.items.now _ _ _ c.in-len3.len_at_least c.in-len3.len_below c.word-item-then-items-lt4.is
    c.a-item.is c.b-item.is in
    handed_on _ c.in_err-left-in-Some.field-0.0 c.from_residual.result (search rules)
    (first_reports (operated c.in-Some.operation) _ _ _ _ (row ∙ c.in-Some.ensures.some _ _) c.in_err-left-in-Some.ensures.err)

pub read_row-returns-in_err-right-in-Some-clause-err : goal.read_row-returns-in_err-right-in-Some-clause-err
read_row-returns-in_err-right-in-Some-clause-err t c =
    let row = operands_are c.args.items.now _ _ _ c.in-len3.len_at_least c.in-len3.len_below c.word-item-then-items-lt4.is
    c.a-item.is c.b-item.is in
    handed_on _ c.in_err-right-in-Some.field-0.0 c.from_residual-in_err-right-in-Some.result (search rules)
    (second_reports (operated c.in-Some.operation) _ _ _ _ _ (row ∙ c.in-Some.ensures.some _ _) c.in_ok-left-in-Some.ensures.ok
    c.in_err-right-in-Some.ensures.err)

pub read_row-returns-in_ok-right-in-Some-clause-ok : goal.read_row-returns-in_ok-right-in-Some-clause-ok
read_row-returns-in_ok-right-in-Some-clause-ok t c =
    let row = operands_are c.args.items.now _ _ _ c.in-len3.len_at_least c.in-len3.len_below c.word-item-then-items-lt4.is
    c.a-item.is c.b-item.is in
    both_read (operated c.in-Some.operation) _ _ _ _ _ (row ∙ c.in-Some.ensures.some _ _) c.in_ok-left-in-Some.ensures.ok
    c.in_ok-right-in-Some.ensures.ok ∙ ap Ok (sym c.of.ensures)

pub read_row-returns-in-None-clause-err : goal.read_row-returns-in-None-clause-err
read_row-returns-in-None-clause-err t c =
    let row = operands_are c.args.items.now _ _ _ c.in-len3.len_at_least c.in-len3.len_below c.word-item-then-items-lt4.is
    c.a-item.is c.b-item.is in
    reported_here _ _ c.here.ensures (row ∙ c.in-None.ensures.none refl _ _)
