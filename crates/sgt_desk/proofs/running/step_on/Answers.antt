use Rattle.std.proofs.Common.{rules, sym, subst, false, ◌∙◌}
use Rattle.sgt_desk.specs.Desks.{DeskState, state}
use Rattle.sgt_desk.specs.Runs.{Grows}
use Rattle.sgt_desk.proofs.Attempts.{grew, steps_on, still_live}
use Rattle.sgt_desk.proofs.Entries.{last_from}
use Rattle.sgt_desk.proofs.running.step_on.Goals as goal
use Rattle.sgt_desk.proofs.running.step_on.Goals.{in-Looked, in_default}

pub returns-in_err-answer-clause-grows : goal.returns-in_err-answer-clause-grows
returns-in_err-answer-clause-grows g c =
    subst (λ d. Grows false c.args.t (g.E.Answering.state c.args.desk.now.engine).past (DeskState.past d)) (sym (c.in_err-answer.ensures.unchanged))
    c.loop.invariant.grows

pub returns-then-not-matches-clause-grows : goal.returns-then-not-matches-clause-grows
returns-then-not-matches-clause-grows g c =
    grew c.args.t (state g.E.Answering.state c.args.desk.now) (state g.E.Answering.state c.loop.desk) (state g.E.Answering.state c.answer.new.self)
    c.answer.new.reply c.loop.invariant.grows c.in_ok-answer.ensures.adds

pub returns-then-not-matches-clause-steps : goal.returns-then-not-matches-clause-steps
returns-then-not-matches-clause-steps g c =
    steps_on c.args.t (state g.E.Answering.state c.args.desk.now) (state g.E.Answering.state c.loop.desk) (state g.E.Answering.state c.answer.new.self)
    c.answer.new.reply c.loop.invariant.live_still c.in_ok-answer.ensures.adds c.answer.ensures.legal
    (elim c.match-matches.branch [
      | in-Looked w ↦ absurd (cc (sym w.matches-is ∙ c.if-not-matches.true))
      | in_default w ↦ last_from c.answer.new.reply w.in_default.not-Looked w.in_default.not-Wrote
    ])

pub loop-preserved : goal.loop-preserved
loop-preserved g c = record {
  starts = search rules;
  calls = search rules;
  others = search rules;
  part = search rules;
  configuration = search rules;
  counts = search rules;
  wakes = search rules;
  woken = search rules;
  grows = grew c.args.t (state g.E.Answering.state c.args.desk.now) (state g.E.Answering.state c.loop.desk)
      (state g.E.Answering.state c.answer.new.self) c.answer.new.reply c.loop.invariant.grows c.in_ok-answer.ensures.adds;
  live_still = still_live c.args.t (state g.E.Answering.state c.args.desk.now) (state g.E.Answering.state c.loop.desk)
      (state g.E.Answering.state c.answer.new.self) c.answer.new.reply c.loop.invariant.live_still c.in_ok-answer.ensures.adds
      (elim c.match-matches.branch [
        | in-Looked w ↦ w.in-Looked.is
        | in_default w ↦ absurd (cc (sym w.matches-is ∙ c.if-not-matches.false))
      ]);
  legal = search rules;
}

pub returns-clause-grows : goal.returns-clause-grows
returns-clause-grows g c = c.loop.invariant.grows

pub returns-clause-legal : goal.returns-clause-legal
returns-clause-legal g c = c.loop.invariant.legal
