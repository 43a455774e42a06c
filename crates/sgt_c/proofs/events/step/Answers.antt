use Rattle.std.proofs.Common.{Some, ap, subst, sym}
use Rattle.sgt_engine.specs.EngineView.{EngineView}
use Rattle.sgt_engine.proofs.Entries.{answered_with}
use Rattle.sgt_engine.specs.Guarantees.{Guarantees}
use Rattle.sgt_c.specs.ReplyStructs.{HoldsReply}
use Rattle.sgt_c.proofs.events.step.Goals as goal

pub returns-in-Ok-clause-ok : goal.returns-in-Ok-clause-ok
returns-in-Ok-clause-ok c =
    let done = c.in-Ok.ensures.adds in (
      done.reply,
      (
        ap (λ (e : EngineView). Some (record { engine = e; part = c.args.held.now.part })) done.adds,
        done.legal,
        subst (HoldsReply c.write_reply.new.into) (sym (answered_with _ _ _ _ _ done c.reply_lists.ensures)) c.write_reply.ensures.reply,
        subst Guarantees done.adds c.answer_step.ensures.guarantees,
      ),
    )
