use Rattle.std.proofs.Common.{rules}
use Rattle.sgt_levels.specs.Replays.{values_in}
use Rattle.sgt_levels.proofs.WriteOrders.{fits_more, fits_whole}
use Rattle.sgt_levels.proofs.writes.fits_in.Goals as goal

pub loop-position-preserved : goal.loop-position-preserved
loop-position-preserved c =
    fits_more c.args.history.now (values_in c.args.lists.now) c.args.number c.loop-position.position c.loop-position.invariant
    (c.fits_at.ensures c.if-not-fits_at.false)

pub returns : goal.returns
returns c = λ yes.
    fits_whole c.args.history.now (values_in c.args.lists.now) c.args.number c.loop-position.position c.loop-position.invariant
    (search rules)
