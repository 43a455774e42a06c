use Rattle.std.proofs.Common.{rules, refl, arith}
use Rattle.sgt_c.proofs.ManyRuns.{all_runnable, runnable_next, no_call}
use Rattle.sgt_c.proofs.run_many.are_runnable.Goals as goal

pub loop-call-preserved : goal.loop-call-preserved
loop-call-preserved c =
    runnable_next c.args.calls.now c.loop-call.call-index no_call c.loop-call-test.true (search rules) c.loop-call.invariant

pub returns : goal.returns
returns c = (
  (λ _. all_runnable c.args.calls.now c.loop-call.call-index (omega (arith, c.loop-call-test.false)) c.loop-call.invariant),
  (λ _. refl),
)
