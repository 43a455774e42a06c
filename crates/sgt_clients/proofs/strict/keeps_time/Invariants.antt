use Rattle.std.proofs.Common.{take}
use Rattle.sgt_clients.proofs.RealTime.{IsKept}
use Rattle.sgt_clients.proofs.strict.keeps_time.Given as goal

abbrev pub invariant-loop-number : goal.invariant-loop-number
invariant-loop-number l = IsKept l.spans (take l.number-index l.order) l.latest
