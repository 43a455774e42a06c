use Rattle.std.proofs.Common.{◌≤◌, length, min}
use Rattle.sgt_proc.specs.Flaws.{most_answers}
use Rattle.sgt_proc.proofs.StatementTexts.{IsFound}
use Rattle.sgt_proc.proofs.answers.+answers.Given as goal

abbrev pub invariant-most_answers-loop-ahead : goal.invariant-most_answers-loop-ahead
invariant-most_answers-loop-ahead l = record {
  within : l.ahead ≤ length l.statements;
  so_far : IsFound (λ w. min 9 (most_answers w)) l.statements l.ahead l.following l.most;
}

abbrev pub decreases-most_answers-loop-ahead : goal.decreases-most_answers-loop-ahead
decreases-most_answers-loop-ahead l = l.ahead
