use Rattle.std.proofs.Common.{take}
use Rattle.std.specs.List.{All}
use Rattle.sgt_c.specs.ManyRuns.{IsRunnable}
use Rattle.sgt_c.proofs.run_many.are_runnable.Given as goal

abbrev pub invariant-loop-call : goal.invariant-loop-call
invariant-loop-call l = All IsRunnable (take l.call-index l.calls)
