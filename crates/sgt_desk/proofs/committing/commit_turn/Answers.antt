use Rattle.std.proofs.Common.{rules, refl}
use Rattle.sgt_desk.specs.Asks.{has_come}
use Rattle.sgt_desk.specs.Desks.{state}
use Rattle.sgt_desk.proofs.Attempts.{commit_done, commit_waits, rest_not_done}
use Rattle.sgt_desk.proofs.committing.commit_turn.Goals as goal

pub returns-in-Waits-clause-commits : goal.returns-in-Waits-clause-commits
returns-in-Waits-clause-commits g c =
    commit_waits c.args.t (state g.E.Answering.state c.args.desk.now) (state g.E.Answering.state c.answer.new.self) c.args.ask.now _ c.in-Waits.first _
    c.in_ok-answer.ensures.adds c.in-Waits.is refl
    (rest_not_done (has_come c.args.ask.now.deadline c.args.now) c.turn-in-Waits.result c.turn-in-Waits.ensures)

pub returns-in_default : goal.returns-in_default
returns-in_default g c = record {
  done = search rules;
  no_wait = search rules;
  rests = search rules;
  no_cut = search rules;
  late_no_cut = search rules;
  why = search rules;
  late = search rules;
  live = search rules;
  again = search rules;
  entries = search rules;
  deadline = search rules;
  counted = search rules;
  legal = search rules;
  acts = search rules;
  commits = commit_done c.args.t (state g.E.Answering.state c.args.desk.now) (state g.E.Answering.state c.answer.new.self) c.args.ask.now _
      c.in_ok-answer.ensures.adds c.answer.ensures.legal (search rules);
  wakes = search rules;
  woken = search rules;
}
