use Rattle.sgt_proc.proofs.flaw_place.Search.cond.Goals as goal

pub returns : goal.returns
returns c = c.within.ensures _ _ c.cond_items.ensures
