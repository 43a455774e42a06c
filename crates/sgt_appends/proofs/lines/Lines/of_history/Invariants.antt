use Rattle.sgt_appends.specs.Lines.{line_in, keys_in, AreLines}
use Rattle.sgt_appends.proofs.lines.Lines.of_history.Given as goal

abbrev pub invariant-loop-number : goal.invariant-loop-number
invariant-loop-number l = AreLines l.history l.number 0 (line_in l.lines) (keys_in l.lines)
