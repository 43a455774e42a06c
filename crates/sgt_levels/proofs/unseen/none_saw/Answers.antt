use Rattle.std.proofs.Common.{rules}
use Rattle.sgt_levels.proofs.Scanned.{misses_one, misses_all}
use Rattle.sgt_levels.proofs.unseen.none_saw.Goals as goal

pub loop-number-preserved : goal.loop-number-preserved
loop-number-preserved c =
    misses_one c.args.history.now c.args.key c.args.value c.loop-number.number c.loop-number.invariant
    (c.misses_in.ensures c.if-not-misses_in.false)

pub returns : goal.returns
returns c = λ yes.
    misses_all c.args.history.now c.args.key c.args.value c.loop-number.number c.loop-number.invariant (search rules)
