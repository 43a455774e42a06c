use Rattle.std.proofs.Common.{min, arith}
use Rattle.sgt_proc.specs.Flaws.{most_answers}
use Rattle.sgt_proc.proofs.Ifs.{if_answers}
use Rattle.sgt_proc.proofs.Caps.{most_of_both}
use Rattle.sgt_proc.proofs.StatementTexts.{found_none, found_one, found_all}
use Rattle.sgt_proc.proofs.answers.+answers.Goals as goal

pub most_answers-loop-ahead-init : goal.most_answers-loop-ahead-init
most_answers-loop-ahead-init t c = record {
  within = omega arith;
  so_far = found_none (λ w. min 9 (most_answers w)) c.args.statements.now _ _ (omega arith);
}

pub most_answers-loop-ahead-preserved : goal.most_answers-loop-ahead-preserved
most_answers-loop-ahead-preserved t c = record {
  within = omega (arith, c.loop-ahead.invariant.within);
  so_far = found_one (λ w. min 9 (most_answers w)) c.args.statements.now c.loop-ahead.ahead _ c.index-statements-ahead.result _ _ _
      (omega arith) (omega (arith, c.loop-ahead.invariant.within)) c.index-statements-ahead.is c.loop-ahead.invariant.so_far
      c.most_answers_from-most.ensures;
}

pub most_answers-returns : goal.most_answers-returns
most_answers-returns t c = found_all (λ w. min 9 (most_answers w)) c.args.statements.now c.loop-ahead.ahead _ _ (omega arith)
    c.loop-ahead.invariant.so_far

pub most_answers_from-returns-in-If : goal.most_answers_from-returns-in-If
most_answers_from-returns-in-If t c = λ rest e.
    rw (c.in-If.is, if_answers c.in-If.cond c.in-If.yes c.in-If.no rest, ← c.deref.ensures.value, ← c.deref-in-If.ensures.value)
    (most_of_both 9 _ _ _ _ _ c.max.ensures (c.most_answers.ensures rest e) (c.most_answers-in-If.ensures rest e))
