use Rattle.std.proofs.Common.{reverse, take}
use Rattle.std.specs.List.{All}
use Rattle.sgt_audit.specs.Lives.{AreLives}
use Rattle.sgt_audit.specs.Outcomes.{IsFailed}
use Rattle.sgt_audit.proofs.attempts.all_failed.Given as goal

abbrev pub invariant-loop-t : goal.invariant-loop-t
invariant-loop-t l = AreLives (reverse l.history.entries) l.lives
    → All (IsFailed (reverse l.history.entries) l.job) (take l.t-index l.attempts)
