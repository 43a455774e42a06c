use Rattle.std.proofs.Common.{◌≡◌, min, max, drop}
use Rattle.sgt_model.specs.ProcedureTexts.{block_of}
use Rattle.sgt_proc.specs.Flaws.{depth}
use Rattle.sgt_proc.proofs.depths.+depth.Given as goal

abbrev pub invariant-depth-loop-statement : goal.invariant-depth-loop-statement
invariant-depth-loop-statement l =
    min 17 (depth (block_of l.statements)) ≡ max l.deepest (min 17 (depth (block_of (drop l.statement-index l.statements))))
