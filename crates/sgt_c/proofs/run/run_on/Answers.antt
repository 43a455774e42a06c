use Rattle.std.proofs.Common.{sym, ◌∙◌}
use Rattle.sgt_c.proofs.Runs.{err_holds, ran_to_commit, stopped_at_end}
use Rattle.sgt_c.proofs.run.run_on.Goals as goal

pub returns-in_err-answer_inline-clause-stopped : goal.returns-in_err-answer_inline-clause-stopped
returns-in_err-answer_inline-clause-stopped c =
    err_holds c.from_residual-in_err-answer_inline.result
    (stopped_at_end c.args.t c.in_ok-steps.steps.wrote c.args.engine.now c.step_on.new.engine c.in_ok-steps.steps.last c.answer_inline.new.self
    c.in_ok-steps.ensures.stepped (c.in_ok-steps.ensures.at_end (sym c.is_end.ensures ∙ c.if-not-is_end.false))
    c.in_err-answer_inline.ensures.unchanged)

pub returns-clause-ran : goal.returns-clause-ran
returns-clause-ran c =
    ran_to_commit c.args.t c.in_ok-steps.steps.wrote c.args.engine.now c.in_ok-steps.steps.last c.answer_inline.new.reply c.step_on.new.engine
    c.answer_inline.new.self c.in_ok-steps.ensures.stepped (sym c.is_end.ensures ∙ c.if-not-is_end.false) c.in_ok-answer_inline.ensures.adds
