use Rattle.std.proofs.Common.{refl, inr, ap, sym, ◌∙◌}
use Rattle.sgt_model.specs.Left.{next_left}
use Rattle.sgt_model.specs.ShortReplies.{reply_with}
use Rattle.sgt_model.specs.Traces.{Raises, Ends}
use Rattle.sgt_proc.specs.Nexts.{answers_at}
use Rattle.sgt_sched.specs.Operations.{next_by}
use Rattle.sgt_sched.specs.Scheduler.{state}
use Rattle.sgt_sched.proofs.Stepped.{commits_on, not_live}
use Rattle.sgt_sched.proofs.sched.Sched.answer_commit.Goals as goal

pub returns-in-Asks : goal.returns-in-Asks
returns-in-Asks g c = record {
  turn = commits_on c.args.self.now.limits.asks c.args.t (state c.args.self.now)
      (reply_with c.commit_raised.result c.commit_raised.new.lists) _
      (Raises c.in-Asks.code) (c.in-Some.ensures.unended.0 refl).begun (c.in-Some.ensures.unended.0 refl).unended
      (ap (next_by (state c.args.self.now) c.args.t) (sym c.in-Asks.is) ∙ c.ahead_at.ensures.next) c.commit_raised.ensures.turn;
  kept = c.commit_raised.ensures.kept;
}

pub returns-in-None : goal.returns-in-None
returns-in-None g c = record {
  turn = commits_on c.args.self.now.limits.asks c.args.t (state c.args.self.now)
      (reply_with c.finish_commit.result c.finish_commit.new.lists) _
      (Ends (answers_at (next_left ((state c.args.self.now).left c.args.t)))) (c.in-Some.ensures.unended.0 refl).begun
      (c.in-Some.ensures.unended.0 refl).unended
      (ap (next_by (state c.args.self.now) c.args.t) (sym c.in-Ends.is) ∙ c.ahead_at.ensures.next) (inr c.finish_commit.ensures.turn);
  kept = c.finish_commit.ensures.kept;
}

pub returns-in_default : goal.returns-in_default
returns-in_default g c = record {
  turn = not_live _ _ _ _ _ c.answer_not_live.ensures;
  kept = (refl, refl);
}
