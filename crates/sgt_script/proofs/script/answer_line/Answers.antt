use Rattle.sgt_script.proofs.Parts.{replied}
use Rattle.sgt_script.proofs.script.answer_line.Goals as goal

pub returns-in_ok-answer_event-in-Event-clause-answered : goal.returns-in_ok-answer_event-in-Event-clause-answered
returns-in_ok-answer_event-in-Event-clause-answered g c =
    let one = c.in_ok-answer_event-in-Event.ensures.answered in
    rw c.in-Event.is (replied c.args.output one.0 c.args.event.now c.args.engine.now c.answer_event.new.engine _ _
    c.answer_event.ensures.configuration one.1 one.2 one.3 c.answer_event.ensures.legal)
