use Rattle.std.proofs.Common.{arith}
use Rattle.sgt_proc.proofs.Caps.{deepest_with}
use Rattle.sgt_proc.proofs.Ifs.{if_terms}
use Rattle.sgt_proc.proofs.StatementLists.{terms_drop}
use Rattle.sgt_proc.proofs.depths.+terms.Goals as goal

pub exprs_depth-loop-statement-preserved : goal.exprs_depth-loop-statement-preserved
exprs_depth-loop-statement-preserved t c =
    let h = terms_drop c.args.statements.now c.loop-statement.statement-index c.statement-item.result c.loop-statement-test.true
    c.statement-item.is in
    deepest_with 17 _ _ _ _ _ _ _ c.loop-statement.invariant h c.max-deepest.ensures c.exprs_depth_of.ensures

pub exprs_depth_of-returns-in-If : goal.exprs_depth_of-returns-in-If
exprs_depth_of-returns-in-If t c = rw (c.in-If.is, if_terms c.in-If.cond c.in-If.yes c.in-If.no)
    (rw (← c.deref.ensures.value, ← c.deref-in-If.ensures.value)
    (omega (arith, c.max-in-If-2.ensures, c.max-in-If.ensures, c.cond_depth.ensures, c.exprs_depth.ensures, c.exprs_depth-in-If.ensures)))
