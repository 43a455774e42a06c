use Rattle.std.proofs.Common.{rules}
use Rattle.sgt_format.proofs.Begins.{kept, added_two, added_three, kept_three, is_none}
use Rattle.sgt_format.proofs.reply_text.append_committed.Goals as goal

pub returns-in-empty-clause-ok : goal.returns-in-empty-clause-ok
returns-in-empty-clause-ok c =
    rw (is_none c.as_slice.result.now c.args.answers.now c.as_slice.ensures c.in-empty.len_below)
    (added_two c.extend_from_slice.result c.args.lines.now.items _ _ _ c.extend_from_slice.ensures.items)

pub returns-in-empty-clause-err : goal.returns-in-empty-clause-err
returns-in-empty-clause-err c =
    kept c.extend_from_slice.result _ c.args.lines.now.items _ _ (search rules) c.extend_from_slice.ensures.items

pub returns-in_ok-append_answers-in_default-clause-ok : goal.returns-in_ok-append_answers-in_default-clause-ok
returns-in_ok-append_answers-in_default-clause-ok c =
    added_three c.extend_from_slice-in_default-2.result c.args.lines.now.items _ _ _ _ _ _
    c.in_ok-extend_from_slice-in_default.ensures.items c.in_ok-append_answers-in_default.ensures.ok
    c.extend_from_slice-in_default-2.ensures.items

pub returns-in_ok-append_answers-in_default-clause-err : goal.returns-in_ok-append_answers-in_default-clause-err
returns-in_ok-append_answers-in_default-clause-err c =
    kept_three c.extend_from_slice-in_default-2.result _ c.args.lines.now.items _ _ _ _ _ _ (search rules)
    c.in_ok-extend_from_slice-in_default.ensures.items c.in_ok-append_answers-in_default.ensures.ok
    c.extend_from_slice-in_default-2.ensures.items
