use Rattle.std.proofs.Common.{take}
use Rattle.sgt_access.proofs.Rivals.{AddRivals}
use Rattle.sgt_model.specs.Paths.{Rising}
use Rattle.sgt_access.proofs.conflicts.add_rivals.Given as goal

-- the rivals among the accesses so far
abbrev pub invariant-loop-access : goal.invariant-loop-access
invariant-loop-access l = record {
  exact : AddRivals l.t l.key l.kind (take l.access-index l.accesses) l.fn.rivals.items l.rivals.items;
  rising : Rising l.rivals.items;
}
