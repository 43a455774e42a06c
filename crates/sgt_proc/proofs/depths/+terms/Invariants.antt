use Rattle.std.proofs.Common.{◌≡◌, min, max, drop}
use Rattle.sgt_model.specs.ProcedureTexts.{block_of}
use Rattle.sgt_proc.specs.Flaws.{exprs_depth}
use Rattle.sgt_proc.proofs.depths.+terms.Given as goal

abbrev pub invariant-exprs_depth-loop-statement : goal.invariant-exprs_depth-loop-statement
invariant-exprs_depth-loop-statement l =
    min 17 (exprs_depth (block_of l.statements)) ≡ max l.deepest (min 17 (exprs_depth (block_of (drop l.statement-index l.statements))))
