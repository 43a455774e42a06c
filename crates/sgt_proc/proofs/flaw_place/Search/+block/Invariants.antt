use Rattle.std.proofs.Common.{◌≡◌, drop}
use Rattle.sgt_model.specs.ProcedureTexts.{block_of}
use Rattle.sgt_proc.specs.NumberFlaws.{is_bad}
use Rattle.sgt_proc.specs.FlawPlaces.{first_in_block}
use Rattle.sgt_proc.proofs.flaw_place.Search.+block.Given as goal

abbrev pub invariant-statements-loop-index : goal.invariant-statements-loop-index
invariant-statements-loop-index l =
    first_in_block (is_bad l.self.rule.flaw l.self.rule.args) 0 (block_of l.list)
    ≡ first_in_block (is_bad l.self.rule.flaw l.self.rule.args) l.index (block_of (drop l.index l.list))
