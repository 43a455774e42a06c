use Rattle.std.proofs.Common.{rules}
use Rattle.sgt_appends.proofs.Passed.{all_clean, clean_one, clean_after}
use Rattle.sgt_appends.proofs.reads.first_fault.Goals as goal

pub loop-number-preserved : goal.loop-number-preserved
loop-number-preserved c =
    clean_one c.args.history.now c.loop-number.number c.loop-number.invariant (c.in_ok-position.ensures.clean (search rules))

pub returns-clause-clean : goal.returns-clause-clean
returns-clause-clean c = λ none.
    all_clean c.args.history.now (clean_after c.args.history.now c.loop-number.number c.loop-number.invariant (search rules))
