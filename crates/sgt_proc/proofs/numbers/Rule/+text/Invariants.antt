use Rattle.std.proofs.Common.{◌≡◌, drop}
use Rattle.sgt_model.specs.ProcedureTexts.{block_of}
use Rattle.sgt_proc.specs.Flaws.{in_block}
use Rattle.sgt_proc.specs.NumberFlaws.{is_bad}
use Rattle.sgt_proc.proofs.numbers.Rule.+text.Given as goal

abbrev pub invariant-is_broken_in_text-loop-statement : goal.invariant-is_broken_in_text-loop-statement
invariant-is_broken_in_text-loop-statement l =
    in_block (is_bad l.self.flaw l.self.args) (block_of l.statements) ≡ in_block (is_bad l.self.flaw l.self.args)
    (block_of (drop l.statement-index l.statements))
