use Rattle.sgt_levels.specs.Ties.{IsPending}
use Rattle.sgt_levels.proofs.tie.rules_out_snapshot.Given as goal

abbrev pub invariant-loop-tie : goal.invariant-loop-tie
invariant-loop-tie l = IsPending l.history l.tie-index l.start l.at l.waits
