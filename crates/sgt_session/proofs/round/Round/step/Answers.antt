use Rattle.std.proofs.Common.{rules, refl}
use Rattle.sgt_model.specs.declared.event.Event.TheVariants as event
use Rattle.sgt_session.specs.Receipts.{receipt_of}
use Rattle.sgt_session.proofs.round.Round.step.Goals as goal

pub returns-clause-filed : goal.returns-clause-filed
returns-clause-filed g c =
    let added = c.in_ok-answer_step.ensures.adds in (
      receipt_of _ (record { event = event.Step c.args.t; reply = added.reply }),
      refl,
      refl,
      search (rules, added.adds),
      search (rules, added.legal),
      c.file_newest.ensures.filed _ _ (search (rules, added.adds)),
      c.file_newest.ensures.kind (record { event = event.Step c.args.t; reply = added.reply }) c.args.self.now.past (search (rules, added.adds)),
    )

pub returns-clause-counted : goal.returns-clause-counted
returns-clause-counted g c = c.add.ensures.amount
