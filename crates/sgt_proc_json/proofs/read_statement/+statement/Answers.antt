use Rattle.std.proofs.Common.{rules, inl, inr}
use Rattle.std.proofs.lemmas.List.{drop_all}
use Rattle.serde_json.specs.View.{items_view}
use Rattle.sgt_proc_json.proofs.IfRows.{row_of_if, row_of_other, four_are, branches_are, no_if_row, no_branches, if_made}
use Rattle.sgt_proc_json.proofs.InTurn.{handed_on, first_reports, second_reports, both_read}
use Rattle.sgt_proc_json.proofs.Lengths.{reported_here}
use Rattle.sgt_proc_json.proofs.StatementsRead.{one_more, one_refused, all_read}
use Rattle.sgt_proc_json.proofs.read_statement.+statement.Goals as goal
use Rattle.sgt_proc_json.proofs.read_statement.+statement.Goals.{
  branches-in_default-via-then-items-lt4,
  branches-in_default-via-else-items-lt4+else-items-lt5,
  if_row-in_default-via-then-items-lt4,
  if_row-in_default-via-else-items-lt4+else-items-lt5,
}

pub read_row-returns-then-is_if-clause-ok : goal.read_row-returns-then-is_if-clause-ok
read_row-returns-then-is_if-clause-ok t c =
    rw (row_of_if (items_view c.args.items.now) c.is_if.result c.is_if.ensures c.if-is_if.true) c.if_row.ensures.ok

pub read_row-returns-clause-ok : goal.read_row-returns-clause-ok
read_row-returns-clause-ok t c =
    rw (row_of_other (items_view c.args.items.now) c.is_if.result c.is_if.ensures c.if-is_if.false) c.other_row.ensures.ok

pub read_row-returns-then-is_if-clause-err : goal.read_row-returns-then-is_if-clause-err
read_row-returns-then-is_if-clause-err t c =
    rw (row_of_if (items_view c.args.items.now) c.is_if.result c.is_if.ensures c.if-is_if.true) c.if_row.ensures.err

pub read_row-returns-clause-err : goal.read_row-returns-clause-err
read_row-returns-clause-err t c =
    rw (row_of_other (items_view c.args.items.now) c.is_if.result c.is_if.ensures c.if-is_if.false) c.other_row.ensures.err

pub if_row-returns-in_err-cond-in-len4-clause-err : goal.if_row-returns-in_err-cond-in-len4-clause-err
if_row-returns-in_err-cond-in-len4-clause-err t c =
    handed_on _ c.in_err-cond-in-len4.field-0.0 c.from_residual.result (search rules)
    (first_reports _ _ _ _ _ (four_are c.args.items.now _ c.in-len4.len_at_least c.in-len4.len_below c.cond-item.is)
    c.in_err-cond-in-len4.ensures.err)

pub if_row-returns-in_err-yes-in-len4-clause-err : goal.if_row-returns-in_err-yes-in-len4-clause-err
if_row-returns-in_err-yes-in-len4-clause-err t c =
    handed_on _ c.in_err-yes-in-len4.field-0.0 c.from_residual-in_err-yes-in-len4.result (search rules)
    (second_reports _ _ _ _ _ _ (four_are c.args.items.now _ c.in-len4.len_at_least c.in-len4.len_below c.cond-item.is)
    c.in_ok-cond-in-len4.ensures.ok
    c.in_err-yes-in-len4.ensures.err)

pub if_row-returns-in_ok-yes-in-len4-clause-ok : goal.if_row-returns-in_ok-yes-in-len4-clause-ok
if_row-returns-in_ok-yes-in-len4-clause-ok t c =
    if_made _ _ _ _ _ _ (four_are c.args.items.now _ c.in-len4.len_at_least c.in-len4.len_below c.cond-item.is)
    c.in_ok-cond-in-len4.ensures.ok
    c.in_ok-yes-in-len4.ensures.ok

pub if_row-returns-in_default-clause-err : goal.if_row-returns-in_default-clause-err
if_row-returns-in_default-clause-err t c =
    elim c.in_default.branch [
      | if_row-in_default-via-then-items-lt4 w ↦ reported_here _ _ c.here.ensures (no_if_row c.args.items.now (inl (search rules)))
      | if_row-in_default-via-else-items-lt4+else-items-lt5 w ↦ reported_here _ _ c.here.ensures (no_if_row c.args.items.now (inr
          (search rules)))
    ]

pub branches-returns-in_err-yes-in-len4-clause-err : goal.branches-returns-in_err-yes-in-len4-clause-err
branches-returns-in_err-yes-in-len4-clause-err t c =
    handed_on _ c.in_err-yes-in-len4.field-0.0 c.from_residual.result (search rules)
    (first_reports _ _ _ _ _ (branches_are c.args.items.now _ _ c.in-len4.len_at_least c.in-len4.len_below c.yes-item.is c.no-item.is)
    c.in_err-yes-in-len4.ensures.err)

pub branches-returns-in_err-no-in-len4-clause-err : goal.branches-returns-in_err-no-in-len4-clause-err
branches-returns-in_err-no-in-len4-clause-err t c =
    handed_on _ c.in_err-no-in-len4.field-0.0 c.from_residual-in_err-no-in-len4.result (search rules)
    (second_reports _ _ _ _ _ _ (branches_are c.args.items.now _ _ c.in-len4.len_at_least c.in-len4.len_below c.yes-item.is
    c.no-item.is) c.in_ok-yes-in-len4.ensures.ok
    c.in_err-no-in-len4.ensures.err)

pub branches-returns-in_ok-no-in-len4-clause-ok : goal.branches-returns-in_ok-no-in-len4-clause-ok
branches-returns-in_ok-no-in-len4-clause-ok t c =
    both_read _ _ _ _ _ _ (branches_are c.args.items.now _ _ c.in-len4.len_at_least c.in-len4.len_below c.yes-item.is c.no-item.is)
    c.in_ok-yes-in-len4.ensures.ok c.in_ok-no-in-len4.ensures.ok

pub branches-returns-in_default-clause-err : goal.branches-returns-in_default-clause-err
branches-returns-in_default-clause-err t c =
    elim c.in_default.branch [
      | branches-in_default-via-then-items-lt4 w ↦ reported_here _ _ c.here.ensures (no_branches c.args.items.now (inl (search rules)))
      | branches-in_default-via-else-items-lt4+else-items-lt5 w ↦ reported_here _ _ c.here.ensures (no_branches c.args.items.now (inr
          (search rules)))
    ]

pub read_statements-loop-position-preserved : goal.read_statements-loop-position-preserved
read_statements-loop-position-preserved t c = record {
  so_far =
      rw c.push_reserved.ensures.items (one_more c.args.items.now c.loop-position.position _ c.loop-position.list.items
      c.in_ok-statement_at.field-0 _ c.loop-position.invariant.so_far c.loop-position-test.true c.index-items-position.is
      c.in_ok-statement_at.ensures.ok);
  capacity = search rules;
  count = search rules;
}

pub read_statements-returns-in_err-statement_at-clause-err : goal.read_statements-returns-in_err-statement_at-clause-err
read_statements-returns-in_err-statement_at-clause-err t c =
    handed_on _ c.in_err-statement_at.field-0.0 c.from_residual-in_err-statement_at.result (search rules)
    (one_refused c.args.items.now c.loop-position.position _ c.loop-position.list.items _ _ c.loop-position.invariant.so_far
    c.loop-position-test.true c.index-items-position.is c.in_err-statement_at.ensures.err)

pub read_statements-returns-clause-ok : goal.read_statements-returns-clause-ok
read_statements-returns-clause-ok t c =
    all_read c.args.items.now c.loop-position.position c.loop-position.list.items _ c.loop-position.invariant.so_far
    (drop_all c.loop-position.position c.args.items.now c.loop-position-test.false)
