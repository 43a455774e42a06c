use Rattle.std.proofs.Common.{rules}
use Rattle.sgt_levels.proofs.Scanned.{misses_more, misses_whole}
use Rattle.sgt_levels.proofs.unseen.misses_in.Goals as goal

pub loop-position-preserved : goal.loop-position-preserved
loop-position-preserved c =
    misses_more c.args.history.now c.args.key c.args.value c.args.number c.loop-position.position c.loop-position.invariant
    (c.misses_at.ensures c.if-not-misses_at.false)

pub returns : goal.returns
returns c = λ yes.
    misses_whole c.args.history.now c.args.key c.args.value c.args.number c.loop-position.position c.loop-position.invariant
    (search rules)
