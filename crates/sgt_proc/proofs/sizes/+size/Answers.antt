use Rattle.std.proofs.Common.{arith}
use Rattle.sgt_proc.proofs.Caps.{total_with}
use Rattle.sgt_proc.proofs.Ifs.{if_size}
use Rattle.sgt_proc.proofs.StatementLists.{size_drop}
use Rattle.sgt_proc.proofs.sizes.+size.Goals as goal

pub size-loop-statement-preserved : goal.size-loop-statement-preserved
size-loop-statement-preserved t c =
    let h = size_drop c.args.statements.now c.loop-statement.statement-index c.statement-item.result c.loop-statement-test.true
    c.statement-item.is in
    (omega (arith, c.min-total.ensures), total_with 65 _ _ _ _ _ _ _ c.loop-statement.invariant.1 h c.min-total.ensures c.size_of.ensures)

pub size_of-returns-in-If : goal.size_of-returns-in-If
size_of-returns-in-If t c = rw (c.in-If.is, if_size c.in-If.cond c.in-If.yes c.in-If.no)
    (rw (← c.deref.ensures.value, ← c.deref-in-If.ensures.value) (omega (arith, c.min.ensures, c.size.ensures, c.size-in-If.ensures)))
