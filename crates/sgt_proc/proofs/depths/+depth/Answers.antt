use Rattle.std.proofs.Common.{arith}
use Rattle.sgt_proc.proofs.Caps.{deepest_with}
use Rattle.sgt_proc.proofs.Ifs.{if_depth}
use Rattle.sgt_proc.proofs.StatementLists.{depth_drop}
use Rattle.sgt_proc.proofs.depths.+depth.Goals as goal

pub depth-loop-statement-preserved : goal.depth-loop-statement-preserved
depth-loop-statement-preserved t c =
    let h = depth_drop c.args.statements.now c.loop-statement.statement-index c.statement-item.result c.loop-statement-test.true
    c.statement-item.is in
    deepest_with 17 _ _ _ _ _ _ _ c.loop-statement.invariant h c.max-deepest.ensures c.depth_of.ensures

pub depth_of-returns-in-If : goal.depth_of-returns-in-If
depth_of-returns-in-If t c = rw (c.in-If.is, if_depth c.in-If.cond c.in-If.yes c.in-If.no)
    (rw (← c.deref.ensures.value, ← c.deref-in-If.ensures.value)
    (omega (arith, c.one_deeper.ensures, c.depth.ensures, c.depth-in-If.ensures)))
