use Rattle.std.proofs.Common.{refl, sym, subst}
use Rattle.sgt_desk.specs.Desks.{state}
use Rattle.sgt_desk.specs.Runs as runs
use Rattle.sgt_desk.specs.Runs.{GrowsBy, gives_up, named}
use Rattle.sgt_desk.proofs.Runs.{late_from_rest, may_commit}
use Rattle.sgt_desk.proofs.running.run_turn.Goals as goal

pub returns-in-Some-clause-grows : goal.returns-in-Some-clause-grows
returns-in-Some-clause-grows g c on =
    runs.goes_on c.in-Some.t c.in-Some.is
    (c.commit_attempt.ensures.gone_on (may_commit (state g.E.Answering.state c.args.desk.now) c.args.run.now c.in-Some.t on c.in-Some.is)).grows

pub returns-in-Some-clause-goes_on : goal.returns-in-Some-clause-goes_on
returns-in-Some-clause-goes_on g c on = record {
  legal = c.commit_attempt.ensures.legal on.legal;
  rests = (c.commit_attempt.ensures.gone_on
      (may_commit (state g.E.Answering.state c.args.desk.now) c.args.run.now c.in-Some.t on c.in-Some.is)).rests;
}

pub returns-in-Some-clause-late_why : goal.returns-in-Some-clause-late_why
returns-in-Some-clause-late_why g c on is =
    late_from_rest c.args.now c.in-Some.t c.args.run.now c.commit_attempt.new.run (state g.E.Answering.state c.commit_attempt.new.desk) _ _ refl
    ((c.commit_attempt.ensures.gone_on (may_commit (state g.E.Answering.state c.args.desk.now) c.args.run.now c.in-Some.t on c.in-Some.is)).late is) refl

pub returns-in-None-clause-grows : goal.returns-in-None-clause-grows
returns-in-None-clause-grows g c on =
    subst (λ a. GrowsBy (gives_up c.try_once.result) c.args.procedure c.args.args.now a (named c.try_once.new.run.ticket)
    (g.E.Answering.state c.args.desk.now.engine).past (g.E.Answering.state c.try_once.new.desk.engine).past) (sym c.in-None.is)
    (c.try_once.ensures.grows on)
