use Rattle.std.proofs.Common.{rules, take}
use Rattle.sgt_notation.specs.Transcripts.{end_lines}
use Rattle.sgt_notation.proofs.OperationLines.{still_begins}
use Rattle.sgt_notation.proofs.operations.append_ends.Goals as goal

pub returns-in_err-append_line-clause-err : goal.returns-in_err-append_line-clause-err
returns-in_err-append_line-clause-err c =
    let kept = still_begins c.args.text.now.items (end_lines c.args.letter.now (take c.loop-t.t-index c.args.tids.now))
    c.loop-t.text.items c.append_line.new.text.items c.loop-t.invariant (search rules) in
    search (rules, kept)
