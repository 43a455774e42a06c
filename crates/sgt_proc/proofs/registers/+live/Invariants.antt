use Rattle.std.proofs.Common.{◌≤◌, length}
use Rattle.sgt_proc.specs.Flaws.{uses_unset}
use Rattle.sgt_proc.proofs.StatementTexts.{IsFound}
use Rattle.sgt_proc.proofs.registers.+live.Given as goal

abbrev pub invariant-is_live-loop-ahead : goal.invariant-is_live-loop-ahead
invariant-is_live-loop-ahead l = record {
  within : l.ahead ≤ length l.statements;
  so_far : IsFound (uses_unset l.register) l.statements l.ahead l.following l.live;
}

abbrev pub decreases-is_live-loop-ahead : goal.decreases-is_live-loop-ahead
decreases-is_live-loop-ahead l = l.ahead
