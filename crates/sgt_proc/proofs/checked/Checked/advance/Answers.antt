use Rattle.std.proofs.Common.{◌≤◌, arith, sym, subst}
use Rattle.sgt_model.specs.ProcedureTexts.{block_of}
use Rattle.sgt_proc.specs.declared.flaw.Flaw.TheVariants.{TooLong, TooDeep}
use Rattle.sgt_proc.specs.Flaws.{depth, size}
use Rattle.sgt_proc.proofs.checked.Checked.advance.Goals as goal

pub advance-requires-clause-shallow : goal.advance-requires-clause-shallow
advance-requires-clause-shallow c =
    subst (λ l. depth (block_of l) ≤ 16) (sym c.deref.ensures.value) (omega (arith, c.self.invariant TooDeep))

pub advance-requires-clause-short : goal.advance-requires-clause-short
advance-requires-clause-short c = subst (λ l. size (block_of l) ≤ 64) (sym c.deref.ensures.value) (omega (arith, c.self.invariant TooLong))
