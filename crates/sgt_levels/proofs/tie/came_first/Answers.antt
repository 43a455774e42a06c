use Rattle.std.proofs.Common.{rules, inl, inr}
use Rattle.sgt_appends.proofs.Loops.{shown_in_order}
use Rattle.sgt_levels.proofs.tie.came_first.Goals as goal

pub returns-in-Observed-InOrder : goal.returns-in-Observed-InOrder
returns-in-Observed-InOrder c = λ yes.
    let at = c.in-Observed-InOrder in
    let is = c.shows.ensures yes in
    (is.0, inl (shown_in_order c.args.history.now c.args.tie.now.from c.args.tie.now.to at.first at.second at.reader at.read is.1))

pub returns-in-Late : goal.returns-in-Late
returns-in-Late c = λ yes. (search rules, inr (c.saw_one.ensures yes).0)
