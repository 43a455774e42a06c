use Rattle.std.proofs.Common.{subst}
use Rattle.sgt_desk.specs.Attempts.{AsksStart}
use Rattle.sgt_desk.specs.Desks.{state}
use Rattle.sgt_desk.proofs.Runs.{asked_start}
use Rattle.sgt_desk.proofs.starting.ask_start.Goals as goal

pub returns-clause-asks : goal.returns-clause-asks
returns-clause-asks g c =
    subst (λ a. AsksStart c.args.procedure a (state g.E.Answering.state c.args.desk.now) c.answer.new.reply (state g.E.Answering.state c.answer.new.self))
    c.copied.ensures
    (asked_start c.args.procedure c.copied.result (state g.E.Answering.state c.args.desk.now) (state g.E.Answering.state c.answer.new.self)
    c.answer.new.reply c.in_ok-answer.ensures.adds c.answer.ensures.legal)
