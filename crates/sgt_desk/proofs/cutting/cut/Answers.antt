use Rattle.std.proofs.Common.{rules}
use Rattle.sgt_desk.specs.Desks.{state}
use Rattle.sgt_desk.proofs.Waking.{rests_stay}
use Rattle.sgt_desk.proofs.cutting.cut.Goals as goal

pub returns-in-Ok-Rest-clause-turn : goal.returns-in-Ok-Rest-clause-turn
returns-in-Ok-Rest-clause-turn g c = record {
  done = search rules;
  rests = λ is. rests_stay c.cut_turn-made.new.ask c.begin_cut.new.ask c.args.now (state g.E.Answering.state c.cut_turn-made.new.desk)
      (state g.E.Answering.state c.begin_cut.new.self) c.begin_cut.ensures.stays c.begin_cut.ensures.same.reason
      c.begin_cut.ensures.same.deadline (c.cut_turn-made.ensures.rests is);
  why = search rules;
  counted = search rules;
  uncounted = search rules;
  committing = search rules;
  late = search rules;
  turns = search rules;
  unchanged = search rules;
  busy = search rules;
  deadline = search rules;
}
