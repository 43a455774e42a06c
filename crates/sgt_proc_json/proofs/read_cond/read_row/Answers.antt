use Rattle.std.proofs.Common.{rules}
use Rattle.sgt_proc_json.proofs.Lengths.{reported_here, no_condition, three_are}
use Rattle.sgt_proc_json.proofs.read_cond.read_row.Goals as goal
use Rattle.sgt_proc_json.proofs.read_cond.read_row.Goals.{in_default-via-then-items-lt3, in_default-via-else-items-lt3+else-items-lt4}

pub returns-in_default-clause-err : goal.returns-in_default-clause-err
returns-in_default-clause-err c =
    elim c.in_default.branch [
      | in_default-via-then-items-lt3 w ↦ reported_here _ _ c.here.ensures (no_condition c.args.items.now (search rules))
      | in_default-via-else-items-lt3+else-items-lt4 w ↦ reported_here _ _ c.here.ensures (no_condition c.args.items.now (search rules))
    ]

pub returns-in-len3-clause-ok : goal.returns-in-len3-clause-ok
returns-in-len3-clause-ok c =
    rw (three_are c.args.items.now _ _ _ (search rules) (search rules) c.word-item.is c.a-item.is c.b-item.is) c.comparison.ensures.ok

pub returns-in-len3-clause-err : goal.returns-in-len3-clause-err
returns-in-len3-clause-err c =
    rw (three_are c.args.items.now _ _ _ (search rules) (search rules) c.word-item.is c.a-item.is c.b-item.is) c.comparison.ensures.err
