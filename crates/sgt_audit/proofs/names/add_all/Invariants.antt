use Rattle.std.proofs.Common.{◌≡◌, ◌++◌, take}
use Rattle.sgt_audit.proofs.names.add_all.Given as goal

abbrev pub invariant-loop-t : goal.invariant-loop-t
invariant-loop-t l = l.named.items ≡ l.fn.named.items ++ take l.t-index l.tids
