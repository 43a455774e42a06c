use Rattle.std.proofs.Common.{sym, ap, ◌∙◌}
use Rattle.sgt_desk.specs.Desks.{state}
use Rattle.sgt_desk.proofs.Waking.{answered_stays}
use Rattle.sgt_desk.proofs.desk.Desk.answer.Goals as goal
use Rattle.sgt_desk.proofs.desk.Desk.answer.Goals.{then-ends, else-ends}

pub returns-else-reports-clause-wakes : goal.returns-else-reports-clause-wakes
returns-else-reports-clause-wakes g c r before after = elim c.if-ends.branch [
  | then-ends w ↦ w.wakes-is
  | else-ends w ↦ absurd (cc (sym (answered_stays (state g.E.Answering.state c.args.self.now) (state g.E.Answering.state c.if-ends.self)
      c.args.event.now c.answer.new.reply (rw w.self-is c.in_ok-answer.ensures.adds) (sym c.ends.ensures ∙ w.if-ends.false)
      (ap (λ d. d.part) w.self-is) (ap (λ d. d.ended) w.self-is) (ap (λ d. d.committing) w.self-is) (ap (λ d. d.cutters) w.self-is) r
      before) ∙ after))
]
