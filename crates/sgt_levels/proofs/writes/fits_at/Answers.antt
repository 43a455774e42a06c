use Rattle.std.proofs.Common.{rules, ◌≡◌, subst}
use Rattle.sgt_appends.specs.Reads.{IsReadAt}
use Rattle.sgt_levels.specs.Replays.{values_in}
use Rattle.sgt_levels.proofs.WriteOrders.{fits_read}
use Rattle.sgt_levels.proofs.writes.fits_at.Goals as goal

pub returns-in_default : goal.returns-in_default
returns-in_default c = λ yes k seen committed is. absurd (c.read_of.ensures.none (search rules) k seen committed is)

pub returns : goal.returns
returns c = λ yes.
    let r = c.in-Some.read in
    let reader : r.reader ≡ c.args.number = search rules in
    let place : r.position ≡ c.args.position = search rules in
    let is : IsReadAt c.args.history.now r.reader r.position r.key r.seen.now = search rules in
    fits_read c.args.history.now (values_in c.args.lists.now) c.args.number c.args.position r.key r.seen.now
    (subst (λ p. IsReadAt c.args.history.now c.args.number p r.key r.seen.now) place
    (subst (λ t. IsReadAt c.args.history.now t r.position r.key r.seen.now) reader is))
    (c.fits.ensures yes)
