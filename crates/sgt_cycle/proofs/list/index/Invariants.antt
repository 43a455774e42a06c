use Rattle.std.proofs.Common.{take}
use Rattle.sgt_model.specs.Paths.{Member}
use Rattle.sgt_cycle.proofs.list.index.Given as goal

abbrev pub invariant-loop-i : goal.invariant-loop-i
invariant-loop-i l = Member l.t (take l.i l.list) → ⊥
