use Rattle.std.proofs.Common.{rules}
use Rattle.sgt_appends.specs.Lines.{line_in, keys_in}
use Rattle.sgt_appends.proofs.Longest.{lines_whole}
use Rattle.sgt_appends.proofs.Versions.{no_more, lines_written}
use Rattle.sgt_appends.proofs.lines.Lines.of_history.Goals as goal

pub returns-clause-lines : goal.returns-clause-lines
returns-clause-lines c =
    lines_whole c.args.history.now c.loop-number.number (line_in c.loop-number.lines) (keys_in c.loop-number.lines)
    c.loop-number.invariant (search rules)

pub returns-clause-longest : goal.returns-clause-longest
returns-clause-longest c =
    no_more c.args.history.now (line_in c.loop-number.lines) (keys_in c.loop-number.lines) c.requires.once c.requires.clean
    (lines_whole c.args.history.now c.loop-number.number (line_in c.loop-number.lines) (keys_in c.loop-number.lines)
    c.loop-number.invariant (search rules))

pub returns-clause-written : goal.returns-clause-written
returns-clause-written c =
    lines_written c.args.history.now (line_in c.loop-number.lines) (keys_in c.loop-number.lines) c.requires.clean
    (lines_whole c.args.history.now c.loop-number.number (line_in c.loop-number.lines) (keys_in c.loop-number.lines)
    c.loop-number.invariant (search rules))
