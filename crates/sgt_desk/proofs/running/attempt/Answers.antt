use Rattle.std.proofs.Common.{rules, refl, sym, subst, None, ◌∙◌, inl}
use Rattle.sgt_desk.specs.Asks.{IsNotFull}
use Rattle.sgt_desk.specs.Attempts.{IsNotOver}
use Rattle.sgt_desk.specs.Desks.{state}
use Rattle.sgt_desk.specs.Runs.{RestsFor}
use Rattle.sgt_desk.proofs.Attempts.{goes_on_from, may_quit, not_quit, quit_reply, wakes_on}
use Rattle.sgt_desk.proofs.running.attempt.Goals as goal

pub returns-in-Ok-Ended-clause-gone_on : goal.returns-in-Ok-Ended-clause-gone_on
returns-in-Ok-Ended-clause-gone_on g c none =
    goes_on_from c.args.now c.args.t (state g.E.Answering.state c.args.desk.now) (state g.E.Answering.state c.step_on.new.desk)
    (state g.E.Answering.state c.commit_attempt.new.desk) c.args.run.now _ c.commit_attempt.new.run c.commit_attempt.result refl
    c.step_on.ensures.grows
    (c.commit_attempt.ensures.gone_on (record { ready = c.in-Ok-Ended.ensures.steps.ready (search rules); rests = inl none }))

pub returns-in-Ok : goal.returns-in-Ok
returns-in-Ok g c = record {
  outcome = search rules;
  left = search rules;
  acts = search rules;
  kept = search rules;
  turn = search rules;
  why = search rules;
  retried = search rules;
  ends = record {
    not_full = λ done. quit_reply c.args.t (state g.E.Answering.state c.step_on.new.desk) (state g.E.Answering.state c.end_attempt.new.desk)
        _ c.end_attempt.new.run.ask c.end_attempt.ensures.quits IsNotFull tt c.in-Ok.ensures.steps.not_full;
    not_over = λ alive ends rests. quit_reply c.args.t (state g.E.Answering.state c.step_on.new.desk)
        (state g.E.Answering.state c.end_attempt.new.desk)
        _ c.end_attempt.new.run.ask c.end_attempt.ensures.quits IsNotOver tt (c.in-Ok.ensures.steps.not_over alive);
  };
  gone_on = λ none. record {
    grows = not_quit c.args.t (state g.E.Answering.state c.step_on.new.desk) (state g.E.Answering.state c.end_attempt.new.desk)
        _ c.end_attempt.new.run.ask c.end_attempt.ensures.quits _ _ (c.in-Ok.ensures.steps.gone (search rules)) c.step_on.ensures.grows;
    rests = subst (λ a. RestsFor (state g.E.Answering.state c.end_attempt.new.desk) a c.end_attempt.new.run.ask.reason)
        (sym c.end_attempt.ensures.none) c.end_attempt.ensures.rests;
    late = λ is. inl (c.end_attempt.ensures.late (cc is));
  };
  legal = search rules;
  wakes = wakes_on (state g.E.Answering.state c.args.desk.now) (state g.E.Answering.state c.step_on.new.desk)
      (state g.E.Answering.state c.end_attempt.new.desk) _ _ c.step_on.ensures.wakes c.end_attempt.ensures.wakes c.end_attempt.ensures.woken;
  woken = search rules;
}

pub returns-in-Err-clause-gone_on : goal.returns-in-Err-clause-gone_on
returns-in-Err-clause-gone_on g c none = record {
  grows = may_quit c.args.t (state g.E.Answering.state c.step_on.new.desk) (state g.E.Answering.state c.end.new.desk)
      _ c.end.new.ask c.end.ensures.quits _ c.step_on.ensures.grows;
  rests = subst (λ r. RestsFor (state g.E.Answering.state c.end.new.desk) None r) (sym (c.end.ensures.ask.reason ∙ none)) tt;
  late = λ is. absurd (cc is);
}
