use Rattle.std.proofs.Common.{rules, refl, ap, sym, ◌∙◌}
use Rattle.std.proofs.lemmas.Bool.{true≢false}
use Rattle.std.specs.Result.{is_ok}
use Rattle.sgt_session.specs.Receipts.{receipt_of}
use Rattle.sgt_session.proofs.round.Round.apply.Goals as goal

pub returns-clause-filed : goal.returns-clause-filed
returns-clause-filed g c =
    let added = c.in_ok-answer.ensures.adds in (
      receipt_of _ (record { event = c.args.event.now; reply = added.reply }),
      refl,
      refl,
      search (rules, added.adds),
      search (rules, added.legal),
      c.file_newest.ensures.filed _ _ (search (rules, added.adds)),
      c.file_newest.ensures.kind (record { event = c.args.event.now; reply = added.reply }) c.args.self.now.past (search (rules, added.adds)),
    )

pub returns-clause-counted : goal.returns-clause-counted
returns-clause-counted g c = c.add.ensures.amount

pub returns-in_err-answer-clause-quits : goal.returns-in_err-answer-clause-quits
returns-in_err-answer-clause-quits g c = λ t quits live.
    absurd (true≢false (sym (c.answer.ensures.quits t quits (search (rules, live))) ∙ ap is_ok c.in_err-answer.was))
