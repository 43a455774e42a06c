use Rattle.std.proofs.Common.{[], take}
use Rattle.sgt_access.proofs.Rivals.{AreRivals}
use Rattle.sgt_access.proofs.conflicts.has_rival_among.Given as goal

-- there is none among the accesses so far
abbrev pub invariant-loop-access : goal.invariant-loop-access
invariant-loop-access l = AreRivals l.t l.key l.kind (take l.access-index l.accesses) []
