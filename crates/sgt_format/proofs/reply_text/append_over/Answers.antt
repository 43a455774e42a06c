use Rattle.std.proofs.Common.{rules}
use Rattle.sgt_format.proofs.Begins.{kept, added_two, added_three, kept_three}
use Rattle.sgt_format.proofs.reply_text.append_over.Goals as goal

pub returns-in-Committed-clause-ok : goal.returns-in-Committed-clause-ok
returns-in-Committed-clause-ok c =
    rw c.in-Committed.is (added_two c.extend_from_slice.result c.args.lines.now.items _ _ _ c.extend_from_slice.ensures.items)

pub returns-in-Committed-clause-err : goal.returns-in-Committed-clause-err
returns-in-Committed-clause-err c =
    kept c.extend_from_slice.result _ c.args.lines.now.items _ _ (search rules) c.extend_from_slice.ensures.items

pub returns-in_ok-append_cause-in-Aborted-clause-ok : goal.returns-in_ok-append_cause-in-Aborted-clause-ok
returns-in_ok-append_cause-in-Aborted-clause-ok c =
    rw c.in-Aborted.is (added_three c.extend_from_slice-in-Aborted-2.result c.args.lines.now.items _ _ _ _ _ _
    c.in_ok-extend_from_slice-in-Aborted.ensures.items c.in_ok-append_cause-in-Aborted.ensures.ok
    c.extend_from_slice-in-Aborted-2.ensures.items)

pub returns-in_ok-append_cause-in-Aborted-clause-err : goal.returns-in_ok-append_cause-in-Aborted-clause-err
returns-in_ok-append_cause-in-Aborted-clause-err c =
    kept_three c.extend_from_slice-in-Aborted-2.result _ c.args.lines.now.items _ _ _ _ _ _ (search rules)
    c.in_ok-extend_from_slice-in-Aborted.ensures.items c.in_ok-append_cause-in-Aborted.ensures.ok
    c.extend_from_slice-in-Aborted-2.ensures.items
