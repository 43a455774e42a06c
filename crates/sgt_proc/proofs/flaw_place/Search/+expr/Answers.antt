use Rattle.sgt_proc.proofs.flaw_place.Search.+expr.Goals as goal

pub expr-returns : goal.expr-returns
expr-returns t c = c.within.ensures _ _ c.expr_items.ensures
