use Rattle.std.proofs.Common.{length, ◌-◌, ◌≤◌}
use Rattle.sgt_format.specs.PlainLines.{AreSmall}
use Rattle.sgt_format.proofs.PlainCalls.{GoesOn}
use Rattle.sgt_format.proofs.plain_line.last_arguments.Given as goal

abbrev pub invariant-loop-rest : goal.invariant-loop-rest
invariant-loop-rest l = record {
  few : length l.args ≤ 4;
  small : AreSmall l.args;
  read : GoesOn l.text l.args l.rest;
}

abbrev pub decreases-loop-rest : goal.decreases-loop-rest
decreases-loop-rest l = 4 - length l.args
