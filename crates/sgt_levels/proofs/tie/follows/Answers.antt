use Rattle.std.proofs.Common.{inl, inr}
use Rattle.sgt_appends.proofs.Loops.{shown_seen}
use Rattle.sgt_levels.proofs.tie.follows.Goals as goal

pub returns-in-Observed-Seen : goal.returns-in-Observed-Seen
returns-in-Observed-Seen c = λ yes.
    let is = c.shows.ensures yes in
    (is.0, inl (shown_seen c.args.history.now c.args.tie.now.from c.args.tie.now.to c.in-Observed-Seen.append c.in-Observed-Seen.read is.1))

pub returns-in_default : goal.returns-in_default
returns-in_default c = λ yes. let is = c.came_first.ensures yes in (is.0, inr is.1)
