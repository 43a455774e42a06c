use Rattle.std.proofs.Common.{◌≡◌, take}
use Rattle.sgt_sched.specs.LiveList.{numbers}
use Rattle.sgt_sched.proofs.live.Live.numbers.Given as goal

abbrev pub invariant-loop-running : goal.invariant-loop-running
invariant-loop-running l = l.tids ≡ take l.running-index (numbers l.self)
