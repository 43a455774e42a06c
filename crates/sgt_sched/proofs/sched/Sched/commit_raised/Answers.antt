use Rattle.std.proofs.Common.{refl, inr, sym, subst}
use Rattle.sgt_model.specs.declared.reply.Reply.TheVariants.{NotEnded}
use Rattle.sgt_model.specs.declared.short_reply.ShortReply.TheVariants.{Refused}
use Rattle.sgt_model.specs.CallEffects.{RaisedCommitOn}
use Rattle.sgt_model.specs.ShortReplies.{reply_with}
use Rattle.sgt_sched.specs.Scheduler.{state}
use Rattle.sgt_sched.proofs.sched.Sched.commit_raised.Goals as goal

pub returns-in-AtStep : goal.returns-in-AtStep
returns-in-AtStep g c = let before = state c.args.self.now in record {
  turn = subst (λ asks. RaisedCommitOn asks c.args.t c.args.code before NotEnded before) (sym c.in-AtStep.is)
      (record { reply = refl; same = refl });
  kept = (refl, refl);
}

pub returns-in-None : goal.returns-in-None
returns-in-None g c = let refused = c.refuse.ensures in record {
  turn = subst (λ asks. RaisedCommitOn asks c.args.t c.args.code (state c.args.self.now) (reply_with (Refused c.args.code) c.refuse.new.lists)
      (state c.refuse.new.self)) (sym c.in-AtCommit.is) (inr refused.turn);
  kept = refused.kept;
}
