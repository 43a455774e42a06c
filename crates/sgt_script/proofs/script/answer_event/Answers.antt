use Rattle.std.proofs.Common.{◌≡◌, ◌∷◌, refl, ap, sym}
use Rattle.std.proofs.lemmas.Result.{on_ok_weaker}
use Rattle.sgt_model.specs.declared.entry.Entry.{Entry}
use Rattle.sgt_model.specs.declared.event.Event.TheVariants.{Step}
use Rattle.sgt_engine.specs.EngineView.{EngineView}
use Rattle.sgt_script.proofs.script.answer_event.Goals as goal

pub returns-in-Ok-clause-answered : goal.returns-in-Ok-clause-answered
returns-in-Ok-clause-answered c =
    let done = c.in-Ok.ensures.adds in
    let entry : Entry = record { event = Step c.in-Step.t; reply = done.reply } in
    let past : c.answer_step.new.self.past ≡ entry ∷ c.args.engine.now.past = ap (λ (e : EngineView). e.past) done.adds in
    on_ok_weaker c.append_answer.result
    (λ says. (entry, past, sym c.in-Step.is, says entry c.args.engine.now.past past done.is_short)) c.append_answer.ensures.answered

pub returns-in-Ok-answer-clause-answered : goal.returns-in-Ok-answer-clause-answered
returns-in-Ok-answer-clause-answered c =
    let done = c.in-Ok-answer.ensures.adds in
    let entry : Entry = record { event = c.args.event.now; reply = done.reply } in
    let past : c.answer.new.self.past ≡ entry ∷ c.args.engine.now.past = ap (λ (e : EngineView). e.past) done.adds in
    on_ok_weaker c.append_answer-in-Ok-answer.result
    (λ says. (entry, past, refl, says entry c.args.engine.now.past past done.is_short)) c.append_answer-in-Ok-answer.ensures.answered
