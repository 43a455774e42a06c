use Rattle.std.proofs.Common.{rules}
use Rattle.sgt_levels.specs.Replays.{values_in}
use Rattle.sgt_levels.proofs.WriteOrders.{fits_one, fits_all}
use Rattle.sgt_levels.proofs.writes.all_fit.Goals as goal

pub loop-number-preserved : goal.loop-number-preserved
loop-number-preserved c =
    fits_one c.args.history.now (values_in c.args.lists.now) c.loop-number.number c.loop-number.invariant
    (c.fits_in.ensures c.if-not-fits_in.false)

pub returns : goal.returns
returns c = λ yes.
    fits_all c.args.history.now (values_in c.args.lists.now) c.loop-number.number c.loop-number.invariant (search rules)
