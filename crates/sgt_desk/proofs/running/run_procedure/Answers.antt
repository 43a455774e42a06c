use Rattle.std.proofs.Common.{rules, ◌<◌, length, refl, sym, ap, subst, is_some, ◌∙◌}
use Rattle.sgt_desk.specs.Desks.{state}
use Rattle.sgt_desk.specs.Runs.{GrowsBy, gives_up, named}
use Rattle.sgt_desk.proofs.Runs.{counted_goes_on, counted_late}
use Rattle.sgt_desk.proofs.running.run_procedure.Goals as goal

pub returns-then-is_some-clause-turn : goal.returns-then-is_some-clause-turn
returns-then-is_some-clause-turn g c = record {
  outcome = search rules;
  retried = search rules;
  not_full = search rules;
  meanwhile = search rules;
  grows = λ on. subst (λ l. GrowsBy (gives_up c.run_turn-made.result) c.args.procedure c.args.args.now c.args.run.now.attempt
      (named c.run_turn-made.new.run.ticket) (g.E.Answering.state c.args.desk.now.engine).past l) (sym c.begin_commit.ensures.history.past)
      (c.run_turn-made.ensures.grows on);
  grown = λ kept rests. subst (λ l. length (g.E.Answering.state c.args.desk.now.engine).past < length l) (sym c.begin_commit.ensures.history.past)
      (c.run_turn-made.ensures.grown kept rests);
  goes_on = λ on. counted_goes_on (state g.E.Answering.state c.run_turn-made.new.desk) (state g.E.Answering.state c.begin_commit.new.self)
      c.run_turn-made.new.run _ c.begin_commit.ensures.history refl c.begin_commit.ensures.same.reason (c.run_turn-made.ensures.goes_on on);
  done = search rules;
  call = search rules;
  others = search rules;
  part = search rules;
  configuration = search rules;
  left = search rules;
  only = search rules;
  over = search rules;
  cut = search rules;
  again = search rules;
  rests = search rules;
  why = search rules;
  counted = search rules;
  committing = search rules;
  cutters = search rules;
  late = search rules;
  late_why = λ on is. absurd (cc (sym (ap is_some (c.run_turn-made.ensures.turn.only (λ rest. cc (sym is ∙ rest))))
      ∙ (sym c.is_some.ensures ∙ c.if-is_some.true)));
  stale = search rules;
  most = search rules;
  deadline = search rules;
}

pub returns-else-is_some-clause-turn : goal.returns-else-is_some-clause-turn
returns-else-is_some-clause-turn g c = record {
  outcome = search rules;
  retried = search rules;
  not_full = search rules;
  meanwhile = search rules;
  grows = λ on. subst (λ l. GrowsBy (gives_up c.run_turn-made.result) c.args.procedure c.args.args.now c.args.run.now.attempt
      (named c.run_turn-made.new.run.ticket) (g.E.Answering.state c.args.desk.now.engine).past l) (sym c.end_commit.ensures.history.past)
      (c.run_turn-made.ensures.grows on);
  grown = λ kept rests. subst (λ l. length (g.E.Answering.state c.args.desk.now.engine).past < length l) (sym c.end_commit.ensures.history.past)
      (c.run_turn-made.ensures.grown kept rests);
  goes_on = λ on. counted_goes_on (state g.E.Answering.state c.run_turn-made.new.desk) (state g.E.Answering.state c.end_commit.new.self)
      c.run_turn-made.new.run _ c.end_commit.ensures.history refl c.end_commit.ensures.same.reason (c.run_turn-made.ensures.goes_on on);
  done = search rules;
  call = search rules;
  others = search rules;
  part = search rules;
  configuration = search rules;
  left = search rules;
  only = search rules;
  over = search rules;
  cut = search rules;
  again = search rules;
  rests = λ is. record {
    held = rw c.end_commit.ensures.same.reason (c.end_commit.ensures.stays c.run_turn-made.new.run.ask.reason (c.run_turn-made.ensures.turn.no_cut is)
        (c.run_turn-made.ensures.turn.rests is).held);
    in_time = rw c.end_commit.ensures.same.deadline (c.run_turn-made.ensures.turn.rests is).in_time;
  };
  why = search rules;
  counted = search rules;
  committing = search rules;
  cutters = search rules;
  late = search rules;
  late_why = λ on is. counted_late (state g.E.Answering.state c.run_turn-made.new.desk) (state g.E.Answering.state c.end_commit.new.self)
      c.run_turn-made.new.run (record {
        ask = c.end_commit.new.ask;
        attempt = c.run_turn-made.new.run.attempt;
        ticket = c.run_turn-made.new.run.ticket;
        tries = c.run_turn-made.new.run.tries;
        most = c.run_turn-made.new.run.most;
      }) c.end_commit.ensures.history refl c.end_commit.ensures.same.reason c.args.now c.args.run.now
      c.end_commit.ensures.same.reply (c.run_turn-made.ensures.goes_on on) c.end_commit.ensures.stays (c.run_turn-made.ensures.late_why on is);
  stale = search rules;
  most = search rules;
  deadline = search rules;
}
