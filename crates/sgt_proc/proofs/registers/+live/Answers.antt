use Rattle.std.proofs.Common.{rules, arith}
use Rattle.sgt_proc.specs.Flaws.{uses_unset}
use Rattle.sgt_proc.proofs.Ifs.{if_live}
use Rattle.sgt_proc.proofs.StatementTexts.{found_none, found_one, found_all}
use Rattle.sgt_proc.proofs.registers.+live.Goals as goal

pub is_live-loop-ahead-init : goal.is_live-loop-ahead-init
is_live-loop-ahead-init t c = record {
  within = omega arith;
  so_far = found_none (uses_unset c.args.register) c.args.statements.now _ _ (omega arith);
}

pub is_live-loop-ahead-preserved : goal.is_live-loop-ahead-preserved
is_live-loop-ahead-preserved t c = record {
  within = omega (arith, c.loop-ahead.invariant.within);
  so_far = found_one (uses_unset c.args.register) c.args.statements.now c.loop-ahead.ahead _ c.index-statements-ahead.result _ _ _
      (omega arith) (omega (arith, c.loop-ahead.invariant.within)) c.index-statements-ahead.is c.loop-ahead.invariant.so_far
      c.is_live_before-live.ensures;
}

pub is_live-returns : goal.is_live-returns
is_live-returns t c = found_all (uses_unset c.args.register) c.args.statements.now c.loop-ahead.ahead _ _ (omega arith)
    c.loop-ahead.invariant.so_far

pub is_live_before-returns-then-is_live : goal.is_live_before-returns-then-is_live
is_live_before-returns-then-is_live t c = λ rest e.
    rw (c.in-If.is, if_live c.in-If.cond c.in-If.yes c.in-If.no c.args.register rest) (search rules)

pub is_live_before-returns-else-is_live : goal.is_live_before-returns-else-is_live
is_live_before-returns-else-is_live t c = λ rest e.
    rw (c.in-If.is, if_live c.in-If.cond c.in-If.yes c.in-If.no c.args.register rest) (search rules)
