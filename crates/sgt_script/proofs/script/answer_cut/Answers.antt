use Rattle.std.proofs.lemmas.Result.{on_ok_weaker}
use Rattle.std.proofs.Common.{rules, subst, sym}
use Rattle.sgt_engine.specs.Cuts.{GoesOn}
use Rattle.sgt_script.proofs.Parts.{was-cut}
use Rattle.sgt_script.proofs.script.answer_cut.Goals as goal

pub returns-in-Ok-clause-answered : goal.returns-in-Ok-clause-answered
returns-in-Ok-clause-answered c =
    let goes : GoesOn c.args.engine.now c.recycle.new.self =
    subst (GoesOn c.args.engine.now) (sym c.recycle.ensures) c.in-Ok.ensures.goes_on in
    on_ok_weaker c.append_was_cut.result
    (was-cut c.args.output c.args.engine.now c.recycle.new.self c.in-Ok.past.history.entries c.len-entries.result c.args.text.now.items
    c.append_was_cut.new.text.items goes c.in-Ok.ensures.entries (search rules)
    (λ not. absurd (cc (c.in-Ok.ensures.still_live.1 not)))) c.append_was_cut.ensures.text
