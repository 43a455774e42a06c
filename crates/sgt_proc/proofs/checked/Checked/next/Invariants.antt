use Rattle.sgt_proc.proofs.Passed.{HasPassed}
use Rattle.sgt_proc.proofs.checked.Checked.next.Given as goal

abbrev pub invariant-loop : goal.invariant-loop
invariant-loop l = HasPassed l.self l.args l.read l.used l.counter l.cursor
