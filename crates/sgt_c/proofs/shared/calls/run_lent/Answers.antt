use Rattle.std.proofs.Common.{rules}
use Rattle.sgt_c.proofs.DeskTurns.{done_of, reports_outcome}
use Rattle.sgt_c.proofs.shared.calls.run_lent.Goals as goal

pub returns-clause-reported : goal.returns-clause-reported
returns-clause-reported c is =
    let done = done_of _ _ c.end_turn.ensures.next is in
    reports_outcome _ _ _ c.reply_lists-lists.result.now c.end_turn.new.into (c.run_procedure-made.ensures.turn.outcome done) (search rules)
    (c.end_turn.ensures.reported done)
