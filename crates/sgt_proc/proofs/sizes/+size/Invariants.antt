use Rattle.std.proofs.Common.{◌≡◌, ◌+◌, ◌≤◌, min, drop}
use Rattle.sgt_model.specs.ProcedureTexts.{block_of}
use Rattle.sgt_proc.specs.Flaws.{size}
use Rattle.sgt_proc.proofs.sizes.+size.Given as goal

abbrev pub invariant-size-loop-statement : goal.invariant-size-loop-statement
invariant-size-loop-statement l =
    (l.total ≤ 65) × (min 65 (size (block_of l.statements)) ≡ min 65 (l.total + size (block_of (drop l.statement-index l.statements))))
