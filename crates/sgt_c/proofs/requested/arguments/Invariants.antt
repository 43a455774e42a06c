use Rattle.std.proofs.Common.{◌≡◌, take}
use Rattle.sgt_c.proofs.requested.arguments.Given as goal

abbrev pub invariant-loop-arg : goal.invariant-loop-arg
invariant-loop-arg l = l.list ≡ take l.arg-index l.args
