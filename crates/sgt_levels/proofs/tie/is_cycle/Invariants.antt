use Rattle.sgt_levels.specs.Steps.{ReachBy}
use Rattle.sgt_levels.specs.Ties.{StepOf}
use Rattle.sgt_levels.proofs.tie.is_cycle.Given as goal

abbrev pub invariant-loop-tie : goal.invariant-loop-tie
invariant-loop-tie l = ReachBy (StepOf l.history l.kind) l.tie-index l.start l.at
