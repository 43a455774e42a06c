use Rattle.std.proofs.Common.{rules}
use Rattle.sgt_notation.proofs.OperationLines.{access_line}
use Rattle.sgt_notation.proofs.operations.append_access.Goals as goal

pub returns-clause-ok : goal.returns-clause-ok
returns-clause-ok c =
    let line = access_line c.args.letter.now c.t.inside.0 c.args.key.now c.args.text.now.items c.append_numbered.new.line.items
    c.append_numbered-2.new.line.items c.append_numbered-3.new.line.items in
    search (rules, line)
