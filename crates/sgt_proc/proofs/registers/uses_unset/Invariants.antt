use Rattle.std.proofs.Common.{◌≡◌, ℕ, ◌<◌, false}
use Rattle.sgt_model.specs.ProcedureTexts.{block_of}
use Rattle.sgt_model.specs.Ways.{onto, end}
use Rattle.sgt_proc.specs.Flaws.{uses_unset}
use Rattle.sgt_proc.proofs.registers.uses_unset.Given as goal

abbrev pub invariant-loop-register : goal.invariant-loop-register
invariant-loop-register l = (r : ℕ) → r < l.register → uses_unset r (onto (block_of l.body) end) ≡ false
