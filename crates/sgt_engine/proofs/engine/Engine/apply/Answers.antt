use Rattle.std.proofs.Common.{◌≡◌, ap, sym, subst, ◌∙◌}
use Rattle.std.proofs.lemmas.Bool.{true≢false}
use Rattle.std.specs.Result.{is_ok}
use Rattle.sgt_model.specs.Legality.{LegalReply}
use Rattle.sgt_engine.specs.EngineView.{configuration_of, with_entry}
use Rattle.sgt_engine.proofs.Entries.{answered_with}
use Rattle.sgt_engine.proofs.engine.Engine.apply.Goals as goal

pub returns-clause-adds : goal.returns-clause-adds
returns-clause-adds g c =
    let done = c.in_ok-answer.ensures.adds in
    let reported : done.reply ≡ c.with_lists.result = answered_with _ _ _ _ _ done c.reply_lists.ensures ∙ sym c.with_lists.ensures in
    done.adds ∙ ap (λ r. with_entry c.args.event r c.args.self.now) reported

pub returns-clause-reply : goal.returns-clause-reply
returns-clause-reply g c =
    let done = c.in_ok-answer.ensures.adds in
    let reported : done.reply ≡ c.with_lists.result = answered_with _ _ _ _ _ done c.reply_lists.ensures ∙ sym c.with_lists.ensures in
    subst (LegalReply (configuration_of c.args.self.now) c.args.self.now.past c.args.event) reported done.legal

pub returns-in_err-answer-clause-quits : goal.returns-in_err-answer-clause-quits
returns-in_err-answer-clause-quits g c = λ t quits live. absurd (true≢false (sym (c.answer.ensures.quits t quits live) ∙ ap is_ok c.in_err-answer.was))
