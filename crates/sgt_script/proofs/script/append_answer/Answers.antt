use Rattle.std.proofs.Common.{◌≡◌, ◌++◌, ap, sym, subst, ◌∙◌}
use Rattle.std.proofs.lemmas.Result.{on_ok_weaker}
use Rattle.sgt_model.specs.ShortReplies.{reply_with}
use Rattle.sgt_format.specs.ReplyText.{text}
use Rattle.sgt_engine.specs.EngineView.{HasLists}
use Rattle.sgt_script.proofs.script.append_answer.Goals as goal

pub returns-in-Replies-clause-answered : goal.returns-in-Replies-clause-answered
returns-in-Replies-clause-answered c =
    on_ok_weaker c.append_short_reply.result
    (λ says entry past is short.
    let same : entry.reply ≡ reply_with c.args.reply.now c.reply_lists.result.now =
    subst (λ l. HasLists l c.reply_lists.result.now) is c.reply_lists.ensures
    ∙ ap (λ s. reply_with s c.reply_lists.result.now) short in
    rw c.in-Replies.is (says ∙ ap (λ r. c.args.text.now.items ++ text r) (sym same)))
    c.append_short_reply.ensures.ok

pub returns-in_default-clause-answered : goal.returns-in_default-clause-answered
returns-in_default-clause-answered c =
    on_ok_weaker c.append_other.result (λ says entry past is short. says entry past is) c.append_other.ensures.answered
