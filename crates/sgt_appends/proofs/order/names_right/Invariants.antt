use Rattle.std.proofs.Common.{take}
use Rattle.sgt_appends.specs.Tables.{IsNamed}
use Rattle.sgt_appends.proofs.order.names_right.Given as goal

abbrev pub invariant-loop-number : goal.invariant-loop-number
invariant-loop-number l = IsNamed l.history (take l.number-index l.order) l.named
