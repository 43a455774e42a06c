use Rattle.std.proofs.Common.{rules, ◌≡◌}
use Rattle.sgt_session.specs.Receipts.{entry_of}
use Rattle.sgt_session.proofs.Owns.{after_call}
use Rattle.sgt_session.proofs.session.Session.make_one.Goals as goal

pub invariant_of-self-2 : goal.invariant_of-self-2
invariant_of-self-2 g c =
    let filed = c.in_ok-apply.ensures.filed in
    let same : c.last_entry.result ≡ entry_of filed.0 = c.last_entry.ensures _ filed.0 filed.5 in
    let kept = after_call c.self.inside.receipts.receipts _ _ c.self.inside.own.items _ _ _ filed.0 _ _ _ _ _
    c.in_ok-spare.ensures.receipts filed.5 c.self.invariant.1 c.in_ok-apply.ensures.counted
    c.in_ok-spare.ensures.own c.self.invariant.2 (rw same at c.note_and_wake.ensures.own) filed.1
    c.in_ok-spare.ensures.spare (rw same at c.note_and_wake.ensures.count) c.in_ok-apply.ensures.spare in
    (search rules, kept.0, kept.1, kept.2)
