use Rattle.std.proofs.Common.{rules}
use Rattle.sgt_appends.proofs.Chosen.{unread_one, unread_all}
use Rattle.sgt_appends.proofs.premises.unknown_read.Goals as goal

pub loop-number-preserved : goal.loop-number-preserved
loop-number-preserved c =
    unread_one c.args.history.now c.loop-number.number c.loop-number.invariant (c.unknown_read_in.ensures.none (search rules))

pub returns-clause-none : goal.returns-clause-none
returns-clause-none c = λ none. unread_all c.args.history.now c.loop-number.number c.loop-number.invariant (search rules)
