use Rattle.std.proofs.Common.{rules}
use Rattle.sgt_levels.specs.Replays.{values_in}
use Rattle.sgt_levels.proofs.WriteOrders.{fitting}
use Rattle.sgt_levels.proofs.writes.is_write_order.Goals as goal

pub returns-in-Some-2 : goal.returns-in-Some-2
returns-in-Some-2 c = λ yes.
    fitting c.args.history.now c.args.order.now (values_in c.in-Some-2.lists) (search rules) (search rules) (search rules) (search rules)
    (c.all_fit.ensures yes)
