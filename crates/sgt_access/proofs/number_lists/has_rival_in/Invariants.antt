use Rattle.std.proofs.Common.{[], take}
use Rattle.sgt_access.specs.NumberLists.{contents, joined}
use Rattle.sgt_access.proofs.Rivals.{AreRivals}
use Rattle.sgt_access.proofs.number_lists.has_rival_in.Given as goal

-- there is none in the lists so far
abbrev pub invariant-loop-list : goal.invariant-loop-list
invariant-loop-list l = AreRivals l.t l.key l.kind (joined (contents (take l.list-index l.lists))) []
