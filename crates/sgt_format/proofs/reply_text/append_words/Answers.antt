use Rattle.std.proofs.Common.{rules}
use Rattle.sgt_format.proofs.Begins.{added, kept}
use Rattle.sgt_format.proofs.reply_text.append_words.Goals as goal

pub returns-clause-ok : goal.returns-clause-ok
returns-clause-ok c = added c.extend_from_slice.result c.args.lines.now.items _ _ c.extend_from_slice.ensures.items

pub returns-clause-err : goal.returns-clause-err
returns-clause-err c = kept c.extend_from_slice.result _ c.args.lines.now.items _ _ (search rules) c.extend_from_slice.ensures.items
