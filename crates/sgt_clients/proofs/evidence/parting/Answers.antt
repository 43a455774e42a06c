use Rattle.std.proofs.Common.{rules, ◌∙◌}
use Rattle.sgt_clients.proofs.Parting.{part_later, part_past}
use Rattle.sgt_clients.proofs.evidence.parting.Goals as goal

pub loop-at-preserved : goal.loop-at-preserved
loop-at-preserved c =
    part_later c.args.values.now c.args.other.now c.loop-at.at (search rules) (search rules) (search rules) c.loop-at.invariant

pub returns-then-at-other : goal.returns-then-at-other
returns-then-at-other c =
    c.of_one.ensures ∙ part_past c.args.values.now c.args.other.now c.loop-at.at c.if-at-other.true c.loop-at.invariant
