use Rattle.std.proofs.Common.{rules}
use Rattle.sgt_levels.proofs.writes.overwrites.Goals as goal

pub returns : goal.returns
returns c = λ yes.
    let is = c.came_first.ensures yes in
    (c.has_committed.ensures.yes (search rules), c.has_committed-else-not-has_committed.ensures.yes (search rules), is.0, is.1)
