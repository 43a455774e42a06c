use Rattle.std.proofs.Common.{rules, take}
use Rattle.sgt_levels.proofs.WriteOrders.{kept_next, kept_one, not_true}
use Rattle.sgt_levels.proofs.writes.next_place.Goals as goal

pub returns-then-list-at-clause-kept : goal.returns-then-list-at-clause-kept
returns-then-list-at-clause-kept c = λ xs kept.
    kept_next c.args.history.now c.args.key c.args.list.now c.args.at c.args.value (search rules) (search rules) xs kept

pub returns-clause-kept : goal.returns-clause-kept
returns-clause-kept c = λ xs kept.
    kept_one c.args.history.now c.args.key xs (take c.args.at c.args.list.now) c.args.value kept
    (c.is_written.ensures (not_true c.is_written.result c.if-is_written.false))
