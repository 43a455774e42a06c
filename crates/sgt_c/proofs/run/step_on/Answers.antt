use Rattle.std.proofs.Common.{rules}
use Rattle.sgt_c.proofs.Runs.{err_holds, one_more_in_short, stopped}
use Rattle.sgt_c.proofs.run.step_on.Goals as goal

pub loop-preserved : goal.loop-preserved
loop-preserved c =
    one_more_in_short c.args.t c.loop.wrote c.args.engine.now c.loop.engine c.answer_inline.new.reply _ c.answer_inline.new.self
    c.loop.invariant c.in_ok-answer_inline.ensures.adds (search rules) (search rules)

pub returns-in_err-answer_inline-clause-stopped : goal.returns-in_err-answer_inline-clause-stopped
returns-in_err-answer_inline-clause-stopped c =
    err_holds c.from_residual.result
    (stopped c.args.t c.loop.wrote c.args.engine.now c.loop.engine c.answer_inline.new.self c.loop.invariant c.in_err-answer_inline.ensures.unchanged)
