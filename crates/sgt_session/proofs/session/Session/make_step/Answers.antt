use Rattle.std.proofs.Common.{rules}
use Rattle.sgt_session.proofs.Owns.{after_call}
use Rattle.sgt_session.proofs.session.Session.make_step.Goals as goal

pub invariant_of-self-2 : goal.invariant_of-self-2
invariant_of-self-2 g c =
    let filed = c.in_ok-kind.ensures.filed in
    let kept = after_call c.self.inside.receipts.receipts _ _ c.self.inside.own.items _ _ _ filed.0 _ _ _ _ _
    c.in_ok-spare.ensures.receipts filed.5 c.self.invariant.1 c.in_ok-kind.ensures.counted
    c.in_ok-spare.ensures.own c.self.invariant.2 (c.note_newest.ensures.own _ filed.0 filed.5) filed.1
    c.in_ok-spare.ensures.spare (c.note_newest.ensures.count _ filed.0 filed.5) c.in_ok-kind.ensures.spare in
    (search rules, kept.0, kept.1, kept.2)
