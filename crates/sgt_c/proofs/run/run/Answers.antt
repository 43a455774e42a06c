use Rattle.std.proofs.Common.{subst}
use Rattle.sgt_engine.specs.EngineView.{Answers}
use Rattle.sgt_model.specs.declared.event.Event.TheVariants.{Start}
use Rattle.sgt_c.proofs.Runs.{run_live, gave_up}
use Rattle.sgt_c.proofs.run.run.Goals as goal

pub run_on-requires : goal.run_on-requires
run_on-requires c =
    run_live c.args.engine.now c.answer_inline.new.self c.args.procedure c.args.args c.in-Started.t
    (subst (λ s. Answers (Start c.args.procedure c.args.args) c.args.engine.now s c.answer_inline.new.self) c.in-Started.is
    c.in_ok-answer_inline.ensures.adds)
    c.answer_inline.ensures.guarantees.legal

pub returns-in-Err-clause-gave_up : goal.returns-in-Err-clause-gave_up
returns-in-Err-clause-gave_up c =
    gave_up (Start c.args.procedure c.args.args) c.in-Started.t c.args.engine.now c.answer_inline.new.self c.run_on.new.engine
    c.quit.new.engine
    (subst (λ s. Answers (Start c.args.procedure c.args.args) c.args.engine.now s c.answer_inline.new.self) c.in-Started.is
    c.in_ok-answer_inline.ensures.adds)
    c.in-Err.ensures.stopped c.quit.ensures
