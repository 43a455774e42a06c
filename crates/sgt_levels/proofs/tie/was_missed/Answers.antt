use Rattle.sgt_appends.proofs.Loops.{shown_missed}
use Rattle.sgt_levels.proofs.tie.was_missed.Goals as goal

pub returns : goal.returns
returns c = λ yes.
    let is = c.shows.ensures yes in
    (is.0, shown_missed c.args.history.now c.args.from c.args.to c.args.read c.args.append is.1)
