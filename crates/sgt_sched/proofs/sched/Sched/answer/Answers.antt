use Rattle.std.proofs.lemmas.Result.{IfOk-weaker}
use Rattle.sgt_model.specs.ShortReplies.{reply_with}
use Rattle.sgt_sched.proofs.Stepped.{called}
use Rattle.sgt_sched.specs.Replies.{with_reply}
use Rattle.sgt_sched.specs.Scheduler.{state, rules_of}
use Rattle.sgt_sched.proofs.sched.Sched.answer.Goals as goal

pub returns-in-Start-clause-done : goal.returns-in-Start-clause-done
returns-in-Start-clause-done g c = record {
  done = IfOk-weaker (with_reply c.answer_start.result c.answer_start.new.reply) _ _
      (λ b done. (called (rules_of c.args.self.now) (state c.args.self.now) _
      (state c.answer_start.new.self) c.args.event.now _ c.in-Start.is) (done _)) c.answer_start.ensures.done;
  refused = c.answer_start.ensures.refused;
  kept = c.answer_start.ensures.kept;
}

pub returns-in-Access-clause-done : goal.returns-in-Access-clause-done
returns-in-Access-clause-done g c = record {
  done = IfOk-weaker (with_reply c.answer_request.result c.answer_request.new.reply) _ _
      (λ b done. (called (rules_of c.args.self.now) (state c.args.self.now) (reply_with b c.answer_request.new.lists)
      (state c.answer_request.new.self) c.args.event.now _ c.in-Access.is) done) c.answer_request.ensures.done.done;
  refused = c.answer_request.ensures.done.refused;
  kept = c.answer_request.ensures.done.kept;
}

pub returns-in-Commit-clause-done : goal.returns-in-Commit-clause-done
returns-in-Commit-clause-done g c = record {
  done = (called (rules_of c.args.self.now) (state c.args.self.now) (reply_with c.answer_commit.new.reply c.answer_commit.new.lists)
      (state c.answer_commit.new.self) c.args.event.now _ c.in-Commit.is) c.answer_commit.ensures.turn;
  refused = tt;
  kept = c.answer_commit.ensures.kept;
}

pub returns-in-Quit-clause-done : goal.returns-in-Quit-clause-done
returns-in-Quit-clause-done g c = record {
  done = (called (rules_of c.args.self.now) (state c.args.self.now) (reply_with c.answer_quit.new.reply c.answer_quit.new.lists)
      (state c.answer_quit.new.self) c.args.event.now _ c.in-Quit.is) c.answer_quit.ensures.turn;
  refused = tt;
  kept = c.answer_quit.ensures.kept;
}
