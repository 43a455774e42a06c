use Rattle.std.proofs.Common.{arith}
use Rattle.sgt_cycle.proofs.Bits.{none_in, least_set, none_below}
use Rattle.sgt_cycle.proofs.indices.least.Goals as goal

pub returns-then-set-eq0-clause-none : goal.returns-then-set-eq0-clause-none
returns-then-set-eq0-clause-none c none i = rw c.if-set-eq0.true (none_in i)

pub returns-clause-some : goal.returns-clause-some
returns-clause-some c = least_set c.args.set (omega arith) c.ranges.set.fits

pub returns-clause-least : goal.returns-clause-least
returns-clause-least c j = none_below c.args.set j (omega arith) c.ranges.set.fits
