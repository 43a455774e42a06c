use Rattle.std.proofs.Common.{rules, refl, arith}
use Rattle.sgt_format.proofs.Written.{cut_line}
use Rattle.sgt_format.proofs.decimal_text.append_written.Goals as goal

pub returns-clause-ok : goal.returns-clause-ok
returns-clause-ok c =
    cut_line c.args.lines.now.items c.args.line.now _ _ c.args.start c.len-before.result _ _ (search rules)
    c.in_ok-extend_from_slice.ensures.items c.truncate.ensures.items refl (omega arith)
