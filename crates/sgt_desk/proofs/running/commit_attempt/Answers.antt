use Rattle.std.proofs.Common.{rules, sym, subst, None, inl, inr}
use Rattle.sgt_desk.specs.Asks.{IsLate, IsNotFull}
use Rattle.sgt_desk.specs.Attempts.{IsNotOver}
use Rattle.sgt_desk.specs.Desks.{state}
use Rattle.sgt_desk.specs.Runs.{Grows, RestsFor}
use Rattle.sgt_desk.proofs.Attempts.{commit_longer, gave_up, gives, may_quit, not_quit, quit_reply}
use Rattle.sgt_desk.proofs.Reasons.{why_now}
use Rattle.sgt_desk.proofs.running.commit_attempt.Goals as goal

pub returns-in-Ok-Done-clause-why : goal.returns-in-Ok-Done-clause-why
returns-in-Ok-Done-clause-why g c =
    why_now (state g.E.Answering.state c.end_attempt.new.desk) c.args.run.now.ask.reason c.end_attempt.new.run.attempt c.end_attempt.new.run.ask.reply
    c.end_attempt.new.run.ask.reason c.end_attempt.ensures.why

pub returns-in-Ok-Done-clause-ends : goal.returns-in-Ok-Done-clause-ends
returns-in-Ok-Done-clause-ends g c = record {
  not_full = λ done. quit_reply c.args.t (state g.E.Answering.state c.commit_turn-made.new.desk) (state g.E.Answering.state c.end_attempt.new.desk)
      c.commit_turn-made.new.ask c.end_attempt.new.run.ask c.end_attempt.ensures.quits IsNotFull tt
      (c.commit_turn-made.ensures.commits.not_full (search rules));
  not_over = λ alive ends rests. quit_reply c.args.t (state g.E.Answering.state c.commit_turn-made.new.desk)
      (state g.E.Answering.state c.end_attempt.new.desk)
      c.commit_turn-made.new.ask c.end_attempt.new.run.ask c.end_attempt.ensures.quits IsNotOver tt
      (c.commit_turn-made.ensures.commits.not_over alive (search rules));
}

pub returns-in-Ok-Done-clause-gone_on : goal.returns-in-Ok-Done-clause-gone_on
returns-in-Ok-Done-clause-gone_on g c may = record {
  grows = not_quit c.args.t (state g.E.Answering.state c.commit_turn-made.new.desk) (state g.E.Answering.state c.end_attempt.new.desk)
      c.commit_turn-made.new.ask c.end_attempt.new.run.ask c.end_attempt.ensures.quits _ _
      (c.commit_turn-made.ensures.commits.gone may.ready (search rules)) c.commit_turn-made.ensures.commits.grows;
  rests = subst (λ a. RestsFor (state g.E.Answering.state c.end_attempt.new.desk) a c.end_attempt.new.run.ask.reason)
      (sym c.end_attempt.ensures.none) c.end_attempt.ensures.rests;
  late = λ is. let l = c.end_attempt.ensures.late (cc is) in
      inl (
        l.0,
        subst (λ d. IsLate d c.args.now c.end_attempt.new.run.ask.reason (state g.E.Answering.state c.end_attempt.new.desk))
            c.commit_turn-made.ensures.deadline l.1,
      );
}

pub returns-in_default-clause-gone_on : goal.returns-in_default-clause-gone_on
returns-in_default-clause-gone_on g c may = record {
  grows = subst (λ q. Grows q c.args.t (g.E.Answering.state c.args.desk.now.engine).past (g.E.Answering.state c.end.new.desk.engine).past)
      (sym (gives c.commit_turn-made.result (search rules) (search rules) c.commit_turn-made.ensures.again.0 c.commit_turn-made.ensures.again.1))
      (may_quit c.args.t (state g.E.Answering.state c.commit_turn-made.new.desk) (state g.E.Answering.state c.end.new.desk)
      _ c.end.new.ask c.end.ensures.quits _ c.commit_turn-made.ensures.commits.grows);
  rests = subst (λ r. RestsFor (state g.E.Answering.state c.end.new.desk) None r) (sym c.end.ensures.ask.reason) tt;
  late = λ is. inr (
    (c.commit_turn-made.ensures.late is).over,
    gave_up c.args.t c.args.run.now.ask.reason (state g.E.Answering.state c.commit_turn-made.new.desk) (state g.E.Answering.state c.end.new.desk)
        _ c.end.new.ask c.end.ensures.quits c.commit_turn-made.new.ask.reply c.commit_turn-made.new.ask.reason
        (c.commit_turn-made.ensures.commits.waits may (inr is)) (c.commit_turn-made.ensures.late is).held c.commit_turn-made.ensures.why,
  );
}

pub returns-in-Ok-Done-clause-grown : goal.returns-in-Ok-Done-clause-grown
returns-in-Ok-Done-clause-grown g c kept rests =
    commit_longer c.args.t (state g.E.Answering.state c.args.desk.now) (state g.E.Answering.state c.commit_turn-made.new.desk)
    (state g.E.Answering.state c.end_attempt.new.desk) c.commit_turn-made.new.ask.reply c.commit_turn-made.new.ask c.end_attempt.new.run.ask
    (c.commit_turn-made.ensures.done (search rules)) c.end_attempt.ensures.quits
