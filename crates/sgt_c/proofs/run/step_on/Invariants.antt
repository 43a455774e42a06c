use Rattle.sgt_c.proofs.Runs.{Stepping}
use Rattle.sgt_c.proofs.run.step_on.Given as goal

abbrev pub invariant-loop : goal.invariant-loop
invariant-loop l = Stepping l.fn.t l.wrote l.initial.engine l.engine
