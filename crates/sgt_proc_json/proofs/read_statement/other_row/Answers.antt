use Rattle.std.proofs.Common.{rules, inl, inr}
use Rattle.sgt_proc_json.proofs.Lengths.{reported_here, no_other_row, one_after, two_after, three_after, four_after}
use Rattle.sgt_proc_json.proofs.read_statement.other_row.Goals as goal
use Rattle.sgt_proc_json.proofs.read_statement.other_row.Goals.{in_default-via-then-items-lt2, in_default-via-else-items-lt2+else-items-lt3+else-items-lt4+else-items-lt5+else-items-lt6}

pub returns-in-len2-clause-ok : goal.returns-in-len2-clause-ok
returns-in-len2-clause-ok c =
    rw (one_after c.args.items.now _ _ c.in-len2.len_at_least c.in-len2.len_below
    c.word-item.is c.a-item.is)
    c.one_item.ensures.ok

pub returns-in-len2-clause-err : goal.returns-in-len2-clause-err
returns-in-len2-clause-err c =
    rw (one_after c.args.items.now _ _ c.in-len2.len_at_least c.in-len2.len_below
    c.word-item.is c.a-item.is)
    c.one_item.ensures.err

pub returns-in-len3-clause-ok : goal.returns-in-len3-clause-ok
returns-in-len3-clause-ok c =
    rw (two_after c.args.items.now _ _ _ c.in-len3.len_at_least c.in-len3.len_below
    c.word-item-then-items-lt4.is c.a-item-then-items-lt4.is c.b-item.is)
    c.two_items.ensures.ok

pub returns-in-len3-clause-err : goal.returns-in-len3-clause-err
returns-in-len3-clause-err c =
    rw (two_after c.args.items.now _ _ _ c.in-len3.len_at_least c.in-len3.len_below
    c.word-item-then-items-lt4.is c.a-item-then-items-lt4.is c.b-item.is)
    c.two_items.ensures.err

pub returns-in-len4-clause-ok : goal.returns-in-len4-clause-ok
returns-in-len4-clause-ok c =
    rw (three_after c.args.items.now _ _ _ _ c.in-len4.len_at_least c.in-len4.len_below
    c.word-item-then-items-lt5.is c.a-item-then-items-lt5.is c.b-item-then-items-lt5.is c.c-item.is)
    c.three_items.ensures.ok

pub returns-in-len4-clause-err : goal.returns-in-len4-clause-err
returns-in-len4-clause-err c =
    rw (three_after c.args.items.now _ _ _ _ c.in-len4.len_at_least c.in-len4.len_below
    c.word-item-then-items-lt5.is c.a-item-then-items-lt5.is c.b-item-then-items-lt5.is c.c-item.is)
    c.three_items.ensures.err

pub returns-in-len5-clause-ok : goal.returns-in-len5-clause-ok
returns-in-len5-clause-ok c =
    rw (four_after c.args.items.now _ _ _ _ _ c.in-len5.len_at_least c.in-len5.len_below
    c.word-item-then-items-lt6.is c.a-item-then-items-lt6.is c.b-item-then-items-lt6.is c.c-item-then-items-lt6.is c.d-item.is)
    c.four_items.ensures.ok

pub returns-in-len5-clause-err : goal.returns-in-len5-clause-err
returns-in-len5-clause-err c =
    rw (four_after c.args.items.now _ _ _ _ _ c.in-len5.len_at_least c.in-len5.len_below
    c.word-item-then-items-lt6.is c.a-item-then-items-lt6.is c.b-item-then-items-lt6.is c.c-item-then-items-lt6.is c.d-item.is)
    c.four_items.ensures.err

pub returns-in_default-clause-err : goal.returns-in_default-clause-err
returns-in_default-clause-err c =
    elim c.in_default.branch [
      | in_default-via-then-items-lt2 w ↦ reported_here _ _ c.here.ensures (no_other_row c.args.items.now (inl (search rules)))
      | in_default-via-else-items-lt2+else-items-lt3+else-items-lt4+else-items-lt5+else-items-lt6 w ↦
          reported_here _ _ c.here.ensures (no_other_row c.args.items.now (inr (search rules)))
    ]
