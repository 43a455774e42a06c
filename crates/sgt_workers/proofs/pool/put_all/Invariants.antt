use Rattle.sgt_workers.specs.Crews.{KeepsConsumers}
use Rattle.sgt_workers.proofs.pool.put_all.Given as goal

abbrev pub invariant-loop-number : goal.invariant-loop-number
invariant-loop-number g l = KeepsConsumers l.fn.producer l.producer

abbrev pub invariant-loop : goal.invariant-loop
invariant-loop g l = KeepsConsumers l.fn.producer l.producer
