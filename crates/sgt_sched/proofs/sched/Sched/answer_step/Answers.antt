use Rattle.std.proofs.Common.{refl, ap, sym, subst, ◌∙◌}
use Rattle.std.proofs.lemmas.Result.{IfOk-weaker}
use Rattle.sgt_model.specs.declared.reply.Reply.TheVariants as reply
use Rattle.sgt_model.specs.Traces.{Ends, Raises}
use Rattle.sgt_model.specs.ShortReplies.{reply_with}
use Rattle.sgt_model.specs.Left.{next_left}
use Rattle.sgt_proc.specs.Nexts.{answers_at}
use Rattle.sgt_sched.specs.Operations.{next_by}
use Rattle.sgt_sched.proofs.Stepped.{steps_on, not_live}
use Rattle.sgt_sched.specs.Endings.{StepEnds}
use Rattle.sgt_sched.specs.Replies.{with_reply}
use Rattle.sgt_sched.specs.Scheduler.{state}
use Rattle.sgt_sched.proofs.sched.Sched.answer_step.Goals as goal

pub returns-in-Ends-clause-done : goal.returns-in-Ends-clause-done
returns-in-Ends-clause-done g c = record {
  done = steps_on c.args.self.now.limits.asks c.args.t (state c.args.self.now) reply.Ended (state c.args.self.now)
      (Ends (answers_at (next_left ((state c.args.self.now).left c.args.t))))
      (c.in-Some.ensures.unended.0 refl).begun (c.in-Some.ensures.unended.0 refl).unended
      (ap (next_by (state c.args.self.now) c.args.t) (sym c.in-Ends.is) ∙ c.ahead_at.ensures.next) (record { reply = refl; same = refl });
  refused = tt;
  kept = (refl, refl);
}

pub returns-in-Asks-clause-done : goal.returns-in-Asks-clause-done
returns-in-Asks-clause-done g c = record {
  done = (steps_on c.args.self.now.limits.asks c.args.t (state c.args.self.now) (reply_with c.step_raised.result c.step_raised.new.lists) _
      (Raises c.in-Asks.code)
      (c.in-Some.ensures.unended.0 refl).begun (c.in-Some.ensures.unended.0 refl).unended
      (ap (next_by (state c.args.self.now) c.args.t) (sym c.in-Asks.is) ∙ c.ahead_at.ensures.next)) c.step_raised.ensures.turn;
  refused = tt;
  kept = c.step_raised.ensures.kept;
}

pub returns-in_default-clause-done : goal.returns-in_default-clause-done
returns-in_default-clause-done g c = record {
  done = not_live _ _ _ _ _ c.answer_not_live.ensures;
  refused = tt;
  kept = (refl, refl);
}
